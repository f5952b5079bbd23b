-- Requests and lines as contracts compare them.
use Rattle.line_server.specs.Requests.{SeenLine}
use Rattle.line_server.specs.declared.line.Line.{Line}
use Rattle.line_server.specs.Bodies.{body_seen}

-- a line by its number and what it asks
abbrev pub seen : Line → SeenLine
seen line = record { number = line.number; body = body_seen line.body }
