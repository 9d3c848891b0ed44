-- The rows and the lines of the code without where their parts lie in memory.
use Rattle.script_compare.specs.Gains as gains
use Rattle.script_compare.specs.declared.gains.GainRow.{GainRow}
use Rattle.script_compare.specs.declared.lines.PrintedLine.{PrintedLine}

-- a row
abbrev pub row_view : GainRow → gains.Row
row_view row = (row.rules.items, row.text.items)

-- a line
abbrev pub line_view : PrintedLine → gains.Line
line_view line = (line.is_request, line.text.items)
