use Rattle.std.proofs.Common.{◌∙◌, length, ap, arith, sym, subst}
use Rattle.std.proofs.lemmas.List.Sorted.{length_permutation}
use Rattle.asgi_desk.specs.declared.waiting.Waiting.{Waiting}
use Rattle.asgi_desk.specs.declared.book.Last.{Last}
use Rattle.asgi_desk.specs.private.Book.{waiting_of, added_by, IsAbove}
use Rattle.asgi_desk.proofs.Telling.{all_stay, keeps_more}
use Rattle.asgi_desk.proofs.book.Book.tell_due.Goals as goal

pub loop-entry-smaller : goal.loop-entry-smaller
loop-entry-smaller g c =
    let long = length_permutation _ _ c.in-Some.ensures.reports in
    let same = ap (λ (w : Waiting g.row.N.Denot). length (waiting_of w)) c.tell.ensures.same.0 in omega arith

pub loop-entry-preserved : goal.loop-entry-preserved
loop-entry-preserved g c =
    let kept = c.loop-entry.invariant in let told = c.tell.ensures.told in let same = c.tell.ensures.same in record {
      all = all_stay _ c.loop-entry.self c.tell.new.self c.take_due.new.self (c.in-Some.entry.number, c.in-Some.entry.report) kept.all c.in-Some.ensures.reports told same.0;
      last = ap (λ (l : Last g.row.N.Denot). added_by l) same.1 ∙ kept.last;
      keeps = λ was k. keeps_more g.T.Teller.tells was c.loop-entry.self c.tell.new.self c.in-Some.entry.number c.in-Some.entry.report (kept.keeps was k)
          told c.tell.ensures.tells c.in-Some.ensures.number c.tell.ensures.count
          (λ up. subst (λ (w : Waiting g.row.N.Denot). IsAbove 0 w) (sym same.0) (c.in-Some.ensures.order up));
    }
