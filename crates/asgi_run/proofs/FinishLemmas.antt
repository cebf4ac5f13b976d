-- The ends of an exchange came together after its task had ended: both halves ran.
use Rattle.std.proofs.Common.{◌≡◌, ℕ, List, Option, sym, subst}
use Rattle.std.specs.Prelude.{IsSome, IfSome}
use Rattle.asgi_types.specs.declared.{end_kind.EndKind.EndKind, facts.Facts.Facts, incoming.Incoming.Incoming, outgoing.Outgoing.Outgoing, scope.Kind.Kind}
use Rattle.asgi_protocol.specs.Lawful.{IsLawful}
use Rattle.asgi_pipes.specs.{declared.ends.AppEnd.Ghosts, declared.items.OutItem.OutItem, Disconnects.Hears, Items.items_of, Queues.KeepsOrder}
use Rattle.asgi_exchange.specs.{Calls.IsExchangeOf, Calls.view_of, Exchange.IsSteady, Halves.ConnKeeps, Views.ConnView}
use Rattle.asgi_exchange.proofs.MeetLemmas.{ends_make}
use Rattle.asgi_ws.specs.Lines.{LineState}
use Rattle.asgi_run.specs.{declared.runner.AppSide.AppSide, declared.runner.AppSide.TheVariants.HasEnded, Running.OfEnd, Running.MayRun, Running.GoesOnAs, Running.HasRun}
use Rattle.asgi_run.specs.declared.exchange_half.Half as any_half
use Rattle.asgi_run.proofs.InlineLemmas as lemma

pub has_run : {H T E M : Type 0} {halves : any_half.Ghosts H} {answers : T → List Incoming → List Outgoing → Option EndKind → Type 0} {ends : Ghosts E} {scene : halves.Scene} {now : LineState}
    {half : H} {read : List ℕ} {side : AppSide T E} {kind : EndKind} (steady : IsSteady (halves.exchange scene)) (left_in left_out : M → ℕ) (stands : T → Kind → List Incoming → List Outgoing → Type 0)
    (app : E) (met : Option M) (view : ConnView halves.In halves.Out) (offered : List Incoming) (got : List OutItem) (places_in places_out : ℕ)
    → MayRun stands ends side → GoesOnAs stands answers ends side (HasEnded app kind) → OfEnd side (λ was. IsExchangeOf ends was (halves.exchange scene))
    → halves.stands scene now half read view → ConnKeeps (halves.exchange scene) view → view.offered ≡ offered → view.got ≡ got
    → IsSome met → IfSome met (λ m. KeepsOrder places_in offered (ends.pulled app) (left_in m)) → IfSome met (λ m. KeepsOrder places_out (items_of (ends.said app) (ends.ended app)) got (left_out m))
    → Hears (ends.kind app) (ends.said app) (ends.pulled app) (ends.heard app) → IsLawful (ends.kind app) (ends.facts app) (ends.said app) → HasRun halves answers ends scene now half read side kind
has_run {halves = halves} {answers} {ends} {scene} {side = side} {kind} steady left_in left_out stands app met view offered got places_in places_out may goes request holds keeps is_offered is_got
    meets inward outward heard lawful =
    let x = halves.exchange scene in
    let of_end = lemma.of_request stands answers ends x side app kind goes request in
    record {
      world = record { conn = view; app = view_of ends app };
      stands = holds;
      exchange = ends_make x steady left_in left_out met _ view _ _ _ _ _ _ _ _ meets inward outward heard
          (subst (λ (f : Facts). IsLawful (ends.kind app) f (ends.said app)) (sym of_end.1) lawful) (sym of_end.0) keeps is_offered is_got;
      ended = lemma.ended_as stands answers ends side app kind goes;
      answers_for = lemma.answered stands answers ends side app kind may goes;
    }
