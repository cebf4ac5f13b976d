-- A plain pair keeps its order in both directions, at any moment.
use Rattle.std.proofs.Common.{◌≡◌, ◌+◌, ◌-◌, false, Option, Some, None, refl, ap, sym, ◌∙◌, length}
use Rattle.std.specs.Prelude.{is_some}
use Rattle.asgi_types.specs.declared.end_kind.EndKind.{EndKind}
use Rattle.asgi_pipes.specs.declared.plain_conn.PlainConn.{PlainConn}
use Rattle.asgi_pipes.specs.declared.plain_app.PlainApp.{PlainApp}
use Rattle.asgi_pipes.specs.Boxes.{put_by}
use Rattle.asgi_pipes.specs.Items.{items_of}
use Rattle.asgi_pipes.specs.PlainPairs.{IsPlainPair}
use Rattle.asgi_pipes.specs.Queues.{KeepsOrder, open_places}
use Rattle.asgi_pipes.specs.Laws.{PlainPairsKeepOrder}
use Rattle.asgi_pipes.proofs.BoxLemmas.{left_between}

pub left_inward : (conn : PlainConn) (app : PlainApp) → IsPlainPair conn app
    → KeepsOrder (open_places (conn.out.places - 1) conn.broken) (put_by conn.out) app.inn.taken.items (length app.inn.queue.items + length conn.out.queue.items)
left_inward conn app pair =
    left_between conn.out app.inn conn.broken conn.reserved (ap (λ t. t.inward.items) pair, ap (λ t. t.inward.waiting) pair, ap (λ t. t.inward.places) pair)

is_none_yet : (ended : Option EndKind) → is_some ended ≡ false → ended ≡ None
is_none_yet None none = refl
is_none_yet (Some kind) none = absurd (cc)

pub left_outward : (conn : PlainConn) (app : PlainApp) → IsPlainPair conn app
    → KeepsOrder (open_places (conn.out.places - 1) (is_some app.state.value.ended)) (items_of app.state.value.said.items app.state.value.ended) conn.inn.taken.items (length conn.inn.queue.items + length app.out.queue.items)
left_outward conn app pair =
    let places = sym conn.same_places ∙ ap (λ t. t.outward.places) pair in
    rw (places, sym app.put_is)
    (left_between app.out conn.inn (is_some app.state.value.ended) (λ none. app.reserved (is_none_yet app.state.value.ended none)) (sym (ap (λ t. t.outward.items) pair), sym (ap (λ t. t.outward.waiting) pair), sym (ap (λ t. t.outward.places) pair)))

pub keep_order : PlainPairsKeepOrder
keep_order conn app pair = ((_, left_inward conn app pair), (_, left_outward conn app pair))
