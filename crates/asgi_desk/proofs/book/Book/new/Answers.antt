use Rattle.std.proofs.Common.{ap, refl}
use Rattle.asgi_desk.specs.Told.{numbers_of}
use Rattle.asgi_desk.proofs.Telling.{none_in, none_told}
use Rattle.asgi_desk.proofs.book.Book.new.Goals as goal

pub returns-clause-none : goal.returns-clause-none
returns-clause-none g c = (none_in g.T.Teller.tells c.new-told.result.items c.new-told.ensures, refl)

pub returns-clause-kept : goal.returns-clause-kept
returns-clause-kept g c = record {
  keeps = record {
    told = none_told g.T.Teller.tells c.args.teller c.new-told.result.items c.new-told.ensures;
    numbers = ap numbers_of c.new-told.ensures;
    order = tt;
  };
  none_due = refl;
}
