-- The names of the fields, worked out.
use Rattle.std.proofs.Common.{◌≡◌, refl, codes}
use Rattle.csv.specs.Writing.{escaped, fields_text, is_blank, row_text}
use Rattle.trade_blotter.specs.Table.{setup}
use Rattle.trade_table.specs.Table.{field_names}

pub names : row_text setup field_names
    ≡ codes "trade,kind,instrument,quantity,price,buyer,seller,room,asked,first,shown,moment_utc,row,buy_order,sell_order,buy_id,sell_id,quote,quote_id,aggressor,cross\r\n"
unfolding escaped fields_text is_blank
names = refl
