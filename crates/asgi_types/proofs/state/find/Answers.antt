use Rattle.std.proofs.Common.{sym, ◌∙◌, arith}
use Rattle.asgi_types.proofs.StateLemmas.{found_at, missing_more}
use Rattle.asgi_types.proofs.state.find.Goals as goal

pub returns-then-eq-clause-found : goal.returns-then-eq-clause-found
returns-then-eq-clause-found c =
    found_at c.args.entries.now c.args.name.now c.as_str.result.now c.loop-index.index c.index-entries-index.result (omega arith) c.index-entries-index.is c.loop-index.invariant
    c.as_str.ensures (sym c.eq.ensures ∙ c.if-eq.true)

pub loop-index-preserved : goal.loop-index-preserved
loop-index-preserved c =
    missing_more c.args.entries.now c.args.name.now c.as_str.result.now c.loop-index.index c.index-entries-index.result (omega arith) c.index-entries-index.is c.loop-index.invariant
    c.as_str.ensures (sym c.eq.ensures ∙ c.if-eq.false)
