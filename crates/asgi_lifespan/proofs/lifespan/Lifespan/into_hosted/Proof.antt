-- The field says only that a proof exists that the application was started. An entailment is a proposition, so the proof may be opened before the
-- walk that Rattle made.
use seplogic.Bi.Basic.{Entails-prop}
use mathlib.Core.Logic.{∥∥₁_elim}
use base.Logic.{via, mono_r}
use denote.Triple.Entry.{on_entry}
use borrow.Fn.Kinds.{sig_of}
use contract.Monad.{fact_mono}
use mathlib.Core.Path.{refl}
use Rattle.asgi_lifespan.specs.Hosting.{IsStarted}
use Rattle.asgi_lifespan.proofs.lifespan.Lifespan.into_hosted.Statement.{statement}
use Rattle.asgi_lifespan.proofs.lifespan.Lifespan.into_hosted.Lts as lts
use Rattle.asgi_lifespan.proofs.lifespan.Lifespan.into_hosted.Reads as reads
use Rattle.asgi_lifespan.proofs.lifespan.Lifespan.into_hosted.Tie as tie

pub into_hosted_spec : {M : Type 1} → statement M
into_hosted_spec {M} =
    tie.close (λ T LT g d k w met drops 𝓤 𝓛 𝓣 y.
    ∥∥₁_elim y.0.3.0.kept (Entails-prop 𝓤.op _ _) (λ started.
    via 𝓤 _ (mono_r 𝓤 (on_entry 𝓛 (sig_of 1 (lts.ps T LT g d k) (lts.r T LT g d k)) y.0.0 y.0.1 y.0.3 y.0.4) (fact_mono 𝓤 _ (IsStarted g.stands y.0.3.0.hosted) (λ _. started)))
    (lts.spec T LT g d k (λ κs a. IsStarted g.stands a.0.hosted) (reads.Post T LT g d k) (λ c. (c.requires, refl)) 𝓤 𝓛 𝓣 y)))
