-- Steps of a connection's half, one after another, whether bytes or messages arrive and are written.
use Rattle.std.proofs.Common.{ℕ, List, [], ◌++◌, append_assoc}
use Rattle.std.proofs.lemmas.List.{append-nil}
use Rattle.asgi_exchange.specs.{Calls.IsViewOf, Views.ConnView}
use Rattle.asgi_run.specs.AnyHalf.{PreservesOn, PreservesInLine}
use Rattle.asgi_ws.specs.Lines.{LineState}
use Rattle.asgi_pipes.specs.declared.ends.ConnEnd as conn_end

module _ {S H A W : Type 0} (stands : S → LineState → H → List ℕ → ConnView A W → Type 0) where
  pub leads_none : (line : LineState) (half : H) (V : ConnView A W → Type 0) → PreservesOn stands line half V line half V
  leads_none line half V scene read view x is_view = ([], view, rw append-nil x, is_view)

  pub leads_then : (was mid now : LineState) (old half new : H) (X Y Z : ConnView A W → Type 0) → PreservesOn stands was old X mid half Y
      → PreservesOn stands mid half Y now new Z → PreservesOn stands was old X now new Z
  leads_then was mid now old half new X Y Z first second scene read view x is_view =
      let a = first scene read view x is_view in
      let b = second scene (read ++ a.0) a.1 a.2 a.3 in (a.0 ++ b.0, b.1, rw (← append_assoc read a.0 b.0) b.2, b.3)

  -- the line does not move
  pub leads_in : (line : LineState) (old new : H) (X Y : ConnView A W → Type 0) → PreservesInLine stands old X new Y → PreservesOn stands line old X line new Y
  leads_in line old new X Y on scene read view x is_view = let a = on scene line read view x is_view in ([], a.0, rw append-nil a.1, a.2)

  pub in_then : (old half new : H) (X Y Z : ConnView A W → Type 0) → PreservesInLine stands old X half Y → PreservesInLine stands half Y new Z → PreservesInLine stands old X new Z
  in_then old half new X Y Z first second scene line read view x is_view = let a = first scene line read view x is_view in second scene line read a.0 a.1 a.2

  -- the half's end of the pair is not called
  pub leads_out : (E : Type 0) (C : conn_end.Ghosts E) (end : E) (was now : LineState) (old new : H) → ((scene : S) (read : List ℕ) (view : ConnView A W) → stands scene was old read view
      → (more : List ℕ) × (arrived : List A) × (written : List W) × stands scene now new (read ++ more) (record view { arrived = arrived; written = written }))
      → PreservesOn stands was old (IsViewOf C end) now new (IsViewOf C end)
  leads_out E C end was now old new on scene read view x is_view = let a = on scene read view x in (a.0, record view { arrived = a.1; written = a.2 }, a.3, is_view)

  -- what is there is taken, and then what is due is offered
  pub taken_and_offered : (was now : LineState) (old half new : H) (X Y Z : ConnView A W → Type 0) → PreservesOn stands was old X now half Y
      → PreservesInLine stands half Y new Z → PreservesOn stands was old X now new Z
  taken_and_offered was now old half new X Y Z first second = leads_then was now now old half new X Y Z first (leads_in now half new Y Z second)
