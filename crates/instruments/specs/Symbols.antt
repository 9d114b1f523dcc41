-- a symbol has the form of a name: 1 to 64 bytes from 33 to 126, the comma excluded
pub use Rattle.config_format.specs.Names.{is_name as is_symbol}
