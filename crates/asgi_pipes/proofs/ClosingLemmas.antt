-- What is received at once after an event that passed.
use Rattle.std.proofs.Common.{◌≡◌, Bool, true, false, List, [], ◌∷◌, ◌++◌, Option, Some, None, refl, sym, ap, ◌∙◌, map, append-nil}
use Rattle.std.specs.Prelude.{not, ◌||◌, if◌then◌else◌, is_some}
use Rattle.std.proofs.lemmas.List.{map-append}
use Rattle.asgi_types.specs.declared.scope.Kind.{Kind}
use Rattle.asgi_types.specs.declared.scope.Kind.TheVariants.{Http, WebSocket, Lifespan}
use Rattle.asgi_types.specs.declared.facts.Facts.{Facts}
use Rattle.asgi_types.specs.declared.incoming.Incoming.{Incoming}
use Rattle.asgi_types.specs.declared.end_kind.EndKind.{EndKind}
use Rattle.asgi_types.specs.declared.outgoing.Outgoing.{Outgoing}
use Rattle.asgi_protocol.specs.declared.verdict.Verdict.TheVariants.{Pass}
use Rattle.asgi_protocol.specs.Shapes.{is_of, is_closed, begins_word}
use Rattle.asgi_protocol.specs.Verdicts.{verdict_on, lines_on}
use Rattle.asgi_protocol.proofs.PassLemmas.{no_line}
use Rattle.asgi_pipes.specs.Disconnects.{first_disconnect, has_disconnect, is_accept, is_accepted, last_of, answer_at_once, event_of}
use Rattle.asgi_pipes.specs.private.Closings.{at_once_after}
use Rattle.asgi_pipes.specs.declared.disconnect.Disconnect.{Disconnect}
use Rattle.std.specs.Option.{option_map}
use Rattle.asgi_pipes.specs.Items.{items_of}
use Rattle.asgi_pipes.specs.declared.items.OutItem.{OutItem}
use Rattle.asgi_pipes.specs.declared.items.OutItem.TheVariants.{Event, Ended}

pub accepted-append : (xs : List Outgoing) (e : Outgoing) → is_accepted (xs ++ e ∷ []) ≡ (is_accepted xs || is_accept e)
accepted-append [] e = or_false (is_accept e)
  where
    or_false : (b : Bool) → (b || false) ≡ b
    or_false true = refl
    or_false false = refl
accepted-append (x ∷ xs) e = ap (λ (b : Bool). is_accept x || b) (accepted-append xs e) ∙ or_assoc (is_accept x) (is_accepted xs) (is_accept e)
  where
    or_assoc : (a b c : Bool) → (a || (b || c)) ≡ ((a || b) || c)
    or_assoc true b c = refl
    or_assoc false b c = refl

pub last-append : (xs : List Outgoing) (e : Outgoing) → last_of (xs ++ e ∷ []) ≡ Some e
last-append [] e = refl
last-append (x ∷ []) e = refl
last-append (x ∷ y ∷ xs) e = last-append (y ∷ xs) e

not_not : (b : Bool) → not b ≡ false → b ≡ true
not_not true h = refl
not_not false h = absurd (cc)

none_of : (o : Option Incoming) → is_some o ≡ false → o ≡ None
none_of None h = refl
none_of (Some x) h = absurd (cc)

-- what a passed event implies of the list before it
pub record Passed (kind : Kind) (said : List Outgoing) (heard : List Incoming) (e : Outgoing) : Type 0 where
  pub open_is : is_closed kind said ≡ false
  pub none : first_disconnect heard ≡ None
  pub of : is_of kind e ≡ true
  pub begins : begins_word kind (said ++ e ∷ []) ≡ true

pub passed : (kind : Kind) (facts : Facts) (said : List Outgoing) (heard : List Incoming) (e : Outgoing)
    → verdict_on kind facts said (has_disconnect heard) e ≡ Pass → Passed kind said heard e
passed kind facts said heard e pass =
    let l = no_line kind (lines_on kind facts said (has_disconnect heard) e) pass in
    record { open_is = l.closed; none = none_of (first_disconnect heard) l.disconnected; of = not_not _ l.wrong_scope; begins = not_not _ l.out_of_order }

-- nothing is received at once before a passed event
pub nothing_at_once : (kind : Kind) (said : List Outgoing) (heard : List Incoming) (e : Outgoing) → Passed kind said heard e
    → answer_at_once kind said heard ≡ None
nothing_at_once Http said heard e p = rw (p.open_is, p.none) refl
nothing_at_once WebSocket said heard e p = rw (p.open_is, p.none) refl
nothing_at_once Lifespan said heard e p = refl

pub nothing_kept : (kept : Option Disconnect) → option_map event_of kept ≡ None → kept ≡ None
nothing_kept None e = refl
nothing_kept (Some disconnect) e = absurd (cc)

-- what is received at once after a passed event: if it closes the scope, the scope's own disconnect
pub answer_after : (kind : Kind) (said : List Outgoing) (heard : List Incoming) (e : Outgoing) → Passed kind said heard e
    → answer_at_once kind (said ++ e ∷ []) heard ≡ at_once_after (is_closed kind (said ++ e ∷ [])) kind (is_accepted said || is_accept e) e
answer_after Http said heard e p = rw p.none refl
answer_after WebSocket said heard e p = rw (p.none, accepted-append said e, last-append said e) refl
answer_after Lifespan said heard e p = never (is_closed Lifespan (said ++ e ∷ []))
  where
    never : (b : Bool) → None ≡ (if b then None else (let o : Option Incoming = None in o))
    never true = refl
    never false = refl

-- the items with one more
pub items_event : (said : List Outgoing) (e : Outgoing) → items_of (said ++ e ∷ []) None ≡ items_of said None ++ Event e ∷ []
items_event said e = append-nil (map Event (said ++ e ∷ [])) ∙ map-append Event said (e ∷ []) ∙ ap (λ (l : List OutItem). l ++ Event e ∷ []) (sym (append-nil (map Event said)))

pub items_end : (said : List Outgoing) (end : EndKind) → items_of said (Some end) ≡ items_of said None ++ Ended end ∷ []
items_end said end = ap (λ (l : List OutItem). l ++ Ended end ∷ []) (sym (append-nil (map Event said)))
