-- Each event of a body is a part of it.
use Rattle.std.proofs.Common.{ℕ, Bool, true, false, List, [], ◌∷◌, ◌++◌, length, take, drop, map, refl, sym, subst, flat_map, All}
use Rattle.std.specs.Prelude.{◌*◌, nat_le, if◌then◌else◌}
use Rattle.std.proofs.lemmas.List.Elements.{All-nil, All-cons}
use Rattle.asgi_types.specs.declared.facts.Framing.{Framing}
use Rattle.asgi_types.specs.declared.facts.Framing.TheVariants.{Length, Chunked, Upgrade}
use Rattle.asgi_types.specs.declared.incoming.Incoming.{Incoming}
use Rattle.asgi_types.specs.declared.limits.Limits.{Limits}
use Rattle.asgi_request.specs.BodyGrowth.{IsRequestEvent}
use Rattle.asgi_request.specs.ChunkedBody.{BodyState, partial, complete, faulty}
use Rattle.asgi_request.specs.RequestEvents.{first_blocks, full_blocks, blocks_before_last, more_event, last_event, length_events, piece_blocks, closing_event, ReadsBody}

last_alone : (bytes : List ℕ) → All IsRequestEvent (last_event bytes ∷ [])
last_alone bytes = All-cons IsRequestEvent (last_event bytes) [] (bytes, false, refl) (All-nil IsRequestEvent)

blocks_and : (blocks : List (List ℕ)) (events : List Incoming) → All IsRequestEvent events → All IsRequestEvent (map more_event blocks ++ events)
blocks_and [] events all = all
blocks_and (b ∷ blocks) events all = All-cons IsRequestEvent (more_event b) (map more_event blocks ++ events) (b, true, refl) (blocks_and blocks events all)

blocks_alone : (blocks : List (List ℕ)) → All IsRequestEvent (map more_event blocks)
blocks_alone [] = All-nil IsRequestEvent
blocks_alone (b ∷ blocks) = All-cons IsRequestEvent (more_event b) (map more_event blocks) (b, true, refl) (blocks_alone blocks)

closing_is : (state : BodyState) → All IsRequestEvent (closing_event state)
closing_is partial = All-nil IsRequestEvent
closing_is (complete after) = last_alone []
closing_is (faulty why) = All-nil IsRequestEvent

length_is : (block n : ℕ) (bytes : List ℕ) → All IsRequestEvent (length_events block n bytes)
length_is block n bytes = by (nat_le n (length bytes))
  where
    by : (b : Bool) → All IsRequestEvent (if b
        then map more_event (first_blocks (blocks_before_last block n) block (take n bytes)) ++ last_event (drop (blocks_before_last block n * block) (take n bytes)) ∷ []
        else map more_event (full_blocks block bytes))
    by true =
        blocks_and (first_blocks (blocks_before_last block n) block (take n bytes)) (last_event (drop (blocks_before_last block n * block) (take n bytes)) ∷ [])
        (last_alone (drop (blocks_before_last block n * block) (take n bytes)))
    by false = blocks_alone (full_blocks block bytes)

pub events_are_requests : (limits : Limits) (framing : Framing) (bytes : List ℕ) (events : List Incoming) (state : BodyState)
    → ReadsBody limits framing bytes events state → All IsRequestEvent events
events_are_requests limits (Length n) bytes events state x = subst (λ (l : List Incoming). All IsRequestEvent l) (sym x.0) (length_is limits.block n bytes)
events_are_requests limits Chunked bytes events state x =
    subst (λ (l : List Incoming). All IsRequestEvent l) (sym x.2) (blocks_and (flat_map (piece_blocks limits.block) x.0) (closing_event state) (closing_is state))
events_are_requests limits Upgrade bytes events state x = subst (λ (l : List Incoming). All IsRequestEvent l) (sym x.0) (All-nil IsRequestEvent)
