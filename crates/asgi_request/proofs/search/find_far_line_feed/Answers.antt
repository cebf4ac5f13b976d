use Rattle.std.proofs.Common.{ℕ, ◌≡◌, Option, drop, length, sym, ap, ◌∙◌, subst}
use Rattle.std.proofs.lemmas.List.{take_rest}
use Rattle.memchr.specs.Find.{IsFirst, IsFirstByte, Passes, is_byte}
use Rattle.asgi_request.specs.Fronts.{more}
use Rattle.asgi_request.proofs.LineFeedLemmas.{first_after}
use Rattle.asgi_request.proofs.search.find_far_line_feed.Goals as goal

pub returns-in_err-i : goal.returns-in_err-i
returns-in_err-i c =
    let after : IsFirstByte (is_byte 10) (drop c.args.from c.args.bytes.now) c.memchr.result = rw (← take_rest c.args.bytes.now c.args.from) c.memchr.ensures in
    let same : more c.args.from c.memchr.result ≡ c.from_residual.result = ap (more c.args.from) c.in_err-i.was ∙ sym c.from_residual.ensures in
    subst (λ (r : Option ℕ). IsFirst (Passes (is_byte 10) c.args.bytes.now) c.args.from (length c.args.bytes.now) r) same
    (first_after (is_byte 10) c.args.bytes.now c.args.from c.memchr.result c.requires after)

pub returns : goal.returns
returns c =
    let after : IsFirstByte (is_byte 10) (drop c.args.from c.args.bytes.now) c.memchr.result = rw (← take_rest c.args.bytes.now c.args.from) c.memchr.ensures in
    subst (λ (r : Option ℕ). IsFirst (Passes (is_byte 10) c.args.bytes.now) c.args.from (length c.args.bytes.now) r)
    (ap (more c.args.from) c.in_ok-i.was)
    (first_after (is_byte 10) c.args.bytes.now c.args.from c.memchr.result c.requires after)
