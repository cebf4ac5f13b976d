-- What is said of the report of a turn, if there is one.
use Rattle.asgi_conversation.specs.declared.report.Report.{Report}
use Rattle.asgi_conn.specs.declared.connection.Step.{Step}
use Rattle.asgi_conn.specs.declared.connection.Step.TheVariants as step
use Rattle.asgi_conn.specs.Standing.{IfOver}

pub if_over : {P Q : Report → Type 0} (turn : Step) → IfOver turn P → ((report : Report) → P report → Q report) → IfOver turn Q
if_over step.Moved over more = tt
if_over step.Idle over more = tt
if_over (step.Over report) over more = more report over
