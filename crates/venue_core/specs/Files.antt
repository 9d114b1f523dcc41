use Rattle.venue_rules.specs.Market.{Market}
use Rattle.venue_core.specs.declared.market.Market.{Market as Files}

-- the market of the two files
abbrev pub market_of : Files → Market
market_of f = record { participants = f.participants; instruments = f.instruments }
