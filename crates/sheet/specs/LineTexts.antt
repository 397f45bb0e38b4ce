-- The text of a line that is being written.
use Rattle.std.specs.Prelude.{ℕ, List, take}
use Rattle.sheet.specs.declared.line_buffer.LineBuffer.{LineBuffer}

abbrev pub line_text : LineBuffer → List ℕ
line_text b = take b.len b.bytes
