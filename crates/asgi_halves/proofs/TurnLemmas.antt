-- What the half's end of the pair gives it, in an exchange of any kind.
use Rattle.asgi_halves.proofs.HalfWords.{◌≡◌, ◌+◌, arith, length, length-append, Bool, true, false, List, [], ◌∷◌, ◌++◌, refl, sym, ap, ◌∙◌, inl, inr, Some, not, OutItem, IsViewOf, ByCut, ConnView}
use Rattle.asgi_halves.proofs.HalfWords.{LineState, Incoming, Turn, IsCutOff, IsTurnOfRead, OfBytes, OfMessage, ConnGhosts}
use Rattle.asgi_halves.specs.Kinds.{IsOneMore, NoRead}
use Rattle.std.specs.Prelude.{IsFalse, IsTrue}

-- an item was taken
pub view_taking : {A W E : Type 0} (C : ConnGhosts E) (old new : E) (view : ConnView A W) {item is : OutItem} → is ≡ item → IsViewOf C old view
    → C.offered new ≡ C.offered old → C.is_broken new ≡ C.is_broken old → C.got new ≡ C.got old ++ is ∷ [] → IsViewOf C new (record view { got = view.got ++ item ∷ [] })
view_taking C old new view {item} same v offered broken got =
    (v.0 ∙ sym offered, v.1 ∙ sym broken, ap (λ (l : List OutItem). l ++ item ∷ []) v.2 ∙ sym (got ∙ ap (λ (i : OutItem). C.got old ++ i ∷ []) same))

-- a connection is cut off, by what offering the disconnect answers: what holds of any view that is cut off holds of one of the end
pub offers_cut : {A W C : Type 0} (E : ConnGhosts C) {old new : C} (view : ConnView A W) (first : Bool) {event cut : Incoming} {P : ConnView A W → Type 0} → event ≡ cut → IsViewOf E old view
    → first ≡ not (E.is_broken old) → (IsTrue first → E.offered new ≡ E.offered old ++ event ∷ []) → (IsFalse first → new ≡ old) → E.is_broken new ≡ true → E.got new ≡ E.got old
    → ((later : ConnView A W) → IsCutOff cut view later → P later) → (later : ConnView A W) × P later × IsViewOf E new later
offers_cut {A = A} {W = W} E {old = old} view true {cut = cut} same v is on_first on_later broken got holds =
    let later : ConnView A W = record view { offered = view.offered ++ cut ∷ []; broken = Some ByCut } in
    let offered = on_first refl ∙ ap (λ (e : Incoming). E.offered old ++ e ∷ []) same in
    (later, holds later (inr (grind (arith, v.1, is), refl)), (ap (λ (l : List Incoming). l ++ cut ∷ []) v.0 ∙ sym offered, sym broken, v.2 ∙ sym got))
offers_cut E view false same v is on_first on_later broken got holds = (view, holds view (inl refl), rw (on_later refl) v)

-- ---- how many items a turn takes

pub one_longer : {A : Type 0} (taken : Bool) (old new : List A) → taken ≡ true → IsOneMore taken old new → length new ≡ length old + 1
one_longer {A} taken old new is took = grind (arith, length-append {A = A})

-- ---- what a turn did

-- where the half rests, by what follows from it
pub rests_else : {P Q : Type 0} (was now : LineState) (turn : Turn) → (P → Q) → IsTurnOfRead P was now turn → IsTurnOfRead Q was now turn
rests_else was now turn then (NoRead rests same idle) = NoRead (then rests) same idle
rests_else was now turn then (OfBytes answer told same is) = OfBytes answer told same is
rests_else was now turn then (OfMessage answer told same is) = OfMessage answer told same is
