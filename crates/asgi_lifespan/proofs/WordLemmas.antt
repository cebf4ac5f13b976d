-- What a lawful list of a lifespan scope begins with, from what was taken of it.
use Rattle.std.proofs.Common.{◌≡◌, true, inl, inr, List, [], ◌∷◌, ◌++◌, None, refl, ap, subst}
use Rattle.asgi_types.specs.declared.end_kind.EndKind.{EndKind}
use Rattle.asgi_types.specs.declared.facts.Facts.{Facts}
use Rattle.asgi_types.specs.declared.outgoing.Outgoing.{Outgoing}
use Rattle.asgi_types.specs.declared.outgoing.Outgoing.TheVariants.{StartupComplete, StartupFailed, ShutdownComplete, ShutdownFailed}
use Rattle.asgi_types.specs.declared.scope.Kind.TheVariants.{Lifespan}
use Rattle.asgi_protocol.specs.Lawful.{IsLawful}
use Rattle.asgi_protocol.specs.Shapes.{begins_word}
use Rattle.asgi_protocol.proofs.WordLemmas.{test_of_beginning}
use Rattle.asgi_pipes.specs.declared.items.OutItem.{OutItem}
use Rattle.asgi_pipes.specs.declared.items.OutItem.TheVariants.{Event, Ended}
use Rattle.asgi_pipes.specs.Items.{items_of}
use Rattle.asgi_lifespan.specs.Lifespan.{IsStartAnswer, IsStopAnswer}

-- the items of what was sent are events
pub first_said : (said : List Outgoing) (event : Outgoing) (left : List OutItem) → items_of said None ≡ Event event ∷ left → (more : List Outgoing) × (said ≡ event ∷ more) × (items_of more None ≡ left)
first_said [] event left is = absurd (cc)
first_said (e ∷ said) event left is = (said, ap (λ (x : Outgoing). x ∷ said) cc, cc)

pub said_none : (said : List Outgoing) → items_of said None ≡ [] → said ≡ []
said_none [] is = refl
said_none (e ∷ said) is = absurd (cc)

-- no end is among them
pub no_end : (said : List Outgoing) (got left : List OutItem) (kind : EndKind) → items_of said None ≡ got ++ Ended kind ∷ left → ⊥
no_end [] [] left kind is = cc
no_end [] (g ∷ got) left kind is = cc
no_end (e ∷ said) [] left kind is = cc
no_end (e ∷ said) (g ∷ got) left kind is = no_end said got left kind cc

begins : (facts : Facts) (said : List Outgoing) → IsLawful Lifespan facts said → begins_word Lifespan said ≡ true
begins facts said lawful = test_of_beginning Lifespan said lawful.begins

starts : (event : Outgoing) (more : List Outgoing) → begins_word Lifespan (event ∷ more) ≡ true → IsStartAnswer event
starts (StartupComplete state) more h = inl (state, refl)
starts (StartupFailed message) more h = inr (message, refl)
starts _ more h = absurd (cc)

-- the first event answers "Startup"
pub start_event : (facts : Facts) (said : List Outgoing) (event : Outgoing) (more : List Outgoing) → IsLawful Lifespan facts said → said ≡ event ∷ more → IsStartAnswer event
start_event facts said event more lawful is = starts event more (subst (λ (l : List Outgoing). begins_word Lifespan l ≡ true) is (begins facts said lawful))

stops : (state : _) (event : Outgoing) (more : List Outgoing) → begins_word Lifespan (StartupComplete state ∷ event ∷ more) ≡ true → IsStopAnswer event
stops state ShutdownComplete more h = inl refl
stops state (ShutdownFailed message) more h = inr (message, refl)
stops state _ more h = absurd (cc)

-- the second event answers "Shutdown"
pub stop_event : (facts : Facts) (said : List Outgoing) (state : _) (event : Outgoing) (more : List Outgoing) → IsLawful Lifespan facts said → said ≡ StartupComplete state ∷ event ∷ more
    → IsStopAnswer event
stop_event facts said state event more lawful is = stops state event more (subst (λ (l : List Outgoing). begins_word Lifespan l ≡ true) is (begins facts said lawful))
