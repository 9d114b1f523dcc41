-- Rows of a table for a spreadsheet: comma-separated values (RFC 4180).
use Rattle.csv.specs.Writing.{default_writer, with_terminator}
use Rattle.csv.specs.declared.parser.Terminator.TheVariants.{CRLF}
use Rattle.csv.specs.declared.writer.WriterBuilder.{WriterBuilder}

-- commas between the fields, CR LF behind a row, and quotes around a field that holds a comma or a quote
abbrev pub setup : WriterBuilder
setup = with_terminator default_writer CRLF
