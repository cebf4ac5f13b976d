-- One disconnect after another, and an event after a disconnect, are not what an exchange keeps.
use Rattle.std.proofs.Common.{◌≡◌, ℕ, zero, suc, List, [], ◌∷◌, ◌++◌, ◌⊎◌, inl, inr, replicate, ap, arith}
use mathlib.Core.List.{IsPrefix}
use Rattle.asgi_types.specs.declared.incoming.Incoming.{Incoming}
use Rattle.asgi_types.specs.declared.incoming.Incoming.TheVariants.{WsConnect, WsReceive, WsDisconnect}
use Rattle.asgi_types.specs.declared.incoming.Payload.{Payload}

-- ---- the codes that were received

abbrev code : Incoming → ℕ
code (WsDisconnect number reason) = number
code _ = 0

abbrev second_code : List Incoming → ℕ
second_code (x ∷ y ∷ events) = code y
second_code _ = 0

abbrev third_code : List Incoming → ℕ
third_code (x ∷ y ∷ z ∷ events) = code z
third_code _ = 0

-- ---- what is not kept

-- the disconnect of a cut, when the client's close was received
pub another_heard : (events : List Incoming) (times : ℕ) (one : Incoming) → WsConnect ∷ WsDisconnect 1000 [] ∷ [] ≡ events ++ replicate times one
    → IsPrefix events (WsConnect ∷ []) → (times ≡ 0) ⊎ (one ≡ WsDisconnect 1006 []) → ⊥
another_heard [] zero one e p why = absurd (cc (e))
another_heard [] (suc zero) one e p why = absurd (cc (e))
another_heard [] (suc (suc n)) one e p why = absurd (cc (e))
another_heard (x ∷ []) zero one e p why = absurd (cc (e))
another_heard (x ∷ []) (suc n) one e p (inl none) = absurd (cc (none))
another_heard (x ∷ []) (suc n) one e p (inr is) =
    let second : 1000 ≡ code one = ap second_code e in
    let cut : code one ≡ 1006 = ap code is in
    absurd (omega (arith, second, cut))
another_heard (x ∷ y ∷ events) times one e p why = absurd (cc (p.1))

-- two disconnects that differ
pub two_heard : (events : List Incoming) (times : ℕ) (one : Incoming)
    → WsConnect ∷ WsDisconnect 1000 [] ∷ WsDisconnect 1001 [] ∷ [] ≡ events ++ replicate times one → IsPrefix events (WsConnect ∷ []) → ⊥
two_heard [] zero one e p = absurd (cc (e))
two_heard [] (suc zero) one e p = absurd (cc (e))
two_heard [] (suc (suc n)) one e p = absurd (cc (e))
two_heard (x ∷ []) zero one e p = absurd (cc (e))
two_heard (x ∷ []) (suc zero) one e p = absurd (cc (e))
two_heard (x ∷ []) (suc (suc n)) one e p =
    let second : 1000 ≡ code one = ap second_code e in
    let third : 1001 ≡ code one = ap third_code e in
    absurd (omega (arith, second, third))
two_heard (x ∷ y ∷ events) times one e p = absurd (cc (p.1))

-- an event that is offered after the disconnect of a cut
pub offered_after : (payload : Payload) (events : List Incoming) → WsDisconnect 1006 [] ∷ WsReceive payload ∷ [] ≡ events ++ WsDisconnect 1006 [] ∷ [] → ⊥
offered_after payload [] e = absurd (cc (e))
offered_after payload (x ∷ []) e = absurd (cc (e))
offered_after payload (x ∷ y ∷ []) e = absurd (cc (e))
offered_after payload (x ∷ y ∷ z ∷ events) e = absurd (cc (e))
