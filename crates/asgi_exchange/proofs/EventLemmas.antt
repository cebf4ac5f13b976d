-- Of what was put into a queue: the events, the end, and that once the end was taken, all was taken.
use Rattle.std.proofs.Common.{◌≡◌, ◌≢◌, List, [], ◌∷◌, ◌++◌, Option, Some, None, refl, ap, sym, ◌∙◌}
use Rattle.std.specs.Prelude.{true, is_none}
use mathlib.Core.List.{IsPrefix}
use Rattle.asgi_types.specs.declared.outgoing.Outgoing.{Outgoing}
use Rattle.asgi_types.specs.declared.end_kind.EndKind.{EndKind}
use Rattle.asgi_pipes.specs.declared.items.OutItem.{OutItem}
use Rattle.asgi_pipes.specs.declared.items.OutItem.TheVariants.{Event, Ended}
use Rattle.asgi_pipes.specs.Items.{items_of}
use Rattle.asgi_exchange.specs.Items.{events_of, end_of}
use Rattle.asgi_exchange.specs.Halves.{IsOrdered}

pub none_is : {B : Type 0} (o : Option B) → is_none o ≡ true → o ≡ None
none_is None h = refl
none_is (Some b) h = absurd (cc (h))

pub events_append : (xs ys : List OutItem) → events_of (xs ++ ys) ≡ events_of xs ++ events_of ys
events_append [] ys = refl
events_append (Event e ∷ xs) ys = ap (λ w. e ∷ w) (events_append xs ys)
events_append (Ended k ∷ xs) ys = events_append xs ys

pub events_prefix : (xs ys : List OutItem) → IsPrefix xs ys → IsPrefix (events_of xs) (events_of ys)
events_prefix xs ys p = (events_of p.0, sym (events_append xs p.0) ∙ ap events_of p.1)

pub end_event : (xs : List OutItem) (e : Outgoing) → end_of (xs ++ Event e ∷ []) ≡ end_of xs
end_event [] e = refl
end_event (Event x ∷ xs) e = end_event xs e
end_event (Ended k ∷ xs) e = refl

pub end_ended : (xs : List OutItem) (k : EndKind) → end_of xs ≡ None → end_of (xs ++ Ended k ∷ []) ≡ Some k
end_ended [] k h = refl
end_ended (Event x ∷ xs) k h = end_ended xs k h
end_ended (Ended j ∷ xs) k h = absurd (cc (h))

-- more goes in if there is no end yet
pub ordered_event : (xs : List OutItem) (e : Outgoing) → end_of xs ≡ None → IsOrdered xs → IsOrdered (xs ++ Event e ∷ [])
ordered_event [] e h o = tt
ordered_event (Event x ∷ xs) e h o = ordered_event xs e h o
ordered_event (Ended k ∷ xs) e h o = absurd (cc (h))

pub ordered_ended : (xs : List OutItem) (k : EndKind) → end_of xs ≡ None → IsOrdered xs → IsOrdered (xs ++ Ended k ∷ [])
ordered_ended [] k h o = refl
ordered_ended (Event x ∷ xs) k h o = ordered_ended xs k h o
ordered_ended (Ended j ∷ xs) k h o = absurd (cc (h))

-- nothing is taken after an end
pub none_taken : (got put : List OutItem) (i : OutItem) → IsOrdered put → IsPrefix (got ++ i ∷ []) put → end_of got ≡ None
none_taken [] put i o p = refl
none_taken (Event e ∷ got) [] i o p = absurd (cc (p.1))
none_taken (Event e ∷ got) (Event f ∷ put) i o p = none_taken got put i o (p.0, cc (p.1))
none_taken (Event e ∷ got) (Ended k ∷ put) i o p = absurd (cc (p.1))
none_taken (Ended k ∷ got) [] i o p = absurd (cc (p.1))
none_taken (Ended k ∷ got) (Event f ∷ put) i o p = absurd (cc (p.1))
none_taken (Ended k ∷ []) (Ended j ∷ put) i o p = absurd (cc (p.1, o))
none_taken (Ended k ∷ (g ∷ got)) (Ended j ∷ put) i o p = absurd (cc (p.1, o))

-- once the end was taken, all was taken
pub all_taken : (got put : List OutItem) → IsOrdered put → IsPrefix got put → end_of got ≢ None → got ≡ put
all_taken [] put o p h = absurd (h refl)
all_taken (Event e ∷ got) [] o p h = absurd (cc (p.1))
all_taken (Event e ∷ got) (Event f ∷ put) o p h = let r = all_taken got put o (p.0, cc (p.1)) h in cc (r, p.1)
all_taken (Event e ∷ got) (Ended k ∷ put) o p h = absurd (cc (p.1))
all_taken (Ended k ∷ got) [] o p h = absurd (cc (p.1))
all_taken (Ended k ∷ got) (Event f ∷ put) o p h = absurd (cc (p.1))
all_taken (Ended k ∷ []) (Ended j ∷ put) o p h = cc (p.1, o)
all_taken (Ended k ∷ (g ∷ got)) (Ended j ∷ put) o p h = absurd (cc (p.1, o))

-- ---- what an end of a queue records as put

pub events_are : (said : List Outgoing) (ended : Option EndKind) → events_of (items_of said ended) ≡ said
events_are [] None = refl
events_are [] (Some kind) = refl
events_are (e ∷ said) ended = ap (λ (l : List Outgoing). e ∷ l) (events_are said ended)

pub end_is : (said : List Outgoing) (ended : Option EndKind) → end_of (items_of said ended) ≡ ended
end_is [] None = refl
end_is [] (Some kind) = refl
end_is (e ∷ said) ended = end_is said ended

pub items_in_order : (said : List Outgoing) (ended : Option EndKind) → IsOrdered (items_of said ended)
items_in_order [] None = tt
items_in_order [] (Some kind) = refl
items_in_order (e ∷ said) ended = items_in_order said ended
