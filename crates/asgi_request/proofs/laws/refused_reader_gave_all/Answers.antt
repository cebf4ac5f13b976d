use Rattle.std.proofs.Common.{◌≡◌, sym, subst, refl}
use Rattle.asgi_request.specs.declared.place.Place.{Place}
use Rattle.asgi_request.specs.Fronts.{unfinished}
use Rattle.asgi_request.specs.Places.{front}
use Rattle.asgi_request.proofs.StandardLemmas.{all_results}
use Rattle.asgi_request.proofs.laws.refused_reader_gave_all.Goals as goal

pub returns : goal.returns
returns c reader bytes given status x refused =
    let P : Place → Type 0 = λ p. front reader.limits p reader.held ≡ unfinished in
    all_results reader.limits reader.limits.block_in_range.0 bytes given reader.place reader.held x (subst P (sym refused.1) refl)
