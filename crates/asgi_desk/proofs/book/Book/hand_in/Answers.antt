use Rattle.std.proofs.Common.{◌++◌, List, ℕ, ◌∙◌, sym, subst}
use Rattle.std.specs.List.Sorted.{IsPermutation}
use Rattle.std.proofs.lemmas.List.Sorted.{IsPermutation-trans}
use Rattle.asgi_desk.specs.private.Book.{all_of}
use Rattle.asgi_desk.proofs.book.Book.hand_in.Goals as goal

pub returns-clause-all : goal.returns-clause-all
returns-clause-all g c =
    let more = sym (c.tell_due.ensures.last ∙ c.add.ensures.last) in
    IsPermutation-trans _ _ _
    (subst (λ (l : List (ℕ × g.row.N.Denot)). IsPermutation (all_of c.args.self.now ++ l) (all_of c.add.new.self)) more c.add.ensures.all) c.tell_due.ensures.all
