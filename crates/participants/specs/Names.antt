-- the form of names: 1 to 64 bytes from 33 to 126, the comma excluded
pub use Rattle.config_format.specs.Names.{has_length_of_name, is_name, is_name_byte}
