-- Why no expression is read where too many phrases would hold it.
use Rattle.std.specs.Prelude.{Option, if◌then◌else◌}
use Rattle.do_lex.specs.declared.kind.Kind.{Kind}
use Rattle.do_parse.specs.Starts.{begins_expr, stmt_start}
use Rattle.do_parse.specs.declared.starts.StmtStart.{StmtStart}
use Rattle.do_parse.specs.declared.starts.StmtStart.TheVariants.{Simple}
use Rattle.do_parse.specs.declared.stop.Stop.{Stop}
use Rattle.do_parse.specs.declared.stop.Stop.TheVariants.{Unexpected, TooNested}

-- The next token is held by too many phrases if it begins an expression, else no expression begins with it.
abbrev pub stop_at : Option Kind → Stop
stop_at next = if begins_expr next then TooNested else Unexpected

-- The same of a statement.
abbrev pub stop_of : StmtStart → Option Kind → Stop
stop_of Simple next = stop_at next
stop_of _ next = TooNested

abbrev pub stmt_stop_at : Option Kind → Stop
stmt_stop_at next = stop_of (stmt_start next) next
