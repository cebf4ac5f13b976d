use Rattle.std.proofs.Common.{◌≡◌, ◌+◌, length, refl, arith}
use Rattle.std.proofs.lemmas.List.{take_rest}
use Rattle.asgi_request.specs.Fronts.{lines_len}
use Rattle.asgi_request.proofs.SearchLemmas.{here, section_step, section_found, section_open, ended}
use Rattle.asgi_request.proofs.LineFeedLemmas.{section_past, section_to, line_feed_is}
use Rattle.asgi_request.proofs.search.find_lines.Goals as goal

pub loop-i-init : goal.loop-i-init
loop-i-init c = (c.requires, here lines_len c.args.at.now c.args.bytes.now)

pub find_line_feed-requires : goal.find_line_feed-requires
find_line_feed-requires c = c.loop-i.invariant.0

pub returns-then-n-gt0-clause-found : goal.returns-then-n-gt0-clause-found
returns-then-n-gt0-clause-found c =
    let first = c.in-Some.ensures in
    let rest = take_rest c.args.bytes.now (c.in-Some.i + 1) in
    let so_far = section_to c.args.bytes.now c.args.at.now c.loop-i.from c.in-Some.i first.0 c.loop-i.invariant.1 in
    section_found c.args.bytes.now c.args.at.now c.in-Some.i c.empty_line_length-n.result first.0.high (line_feed_is _ first.1)
    (cc (rest, c.empty_line_length-n.ensures.value)) (omega arith) so_far

pub returns-then-n-gt0-clause-same : goal.returns-then-n-gt0-clause-same
returns-then-n-gt0-clause-same c =
    section_to c.args.bytes.now c.args.at.now c.loop-i.from c.in-Some.i c.in-Some.ensures.0 c.loop-i.invariant.1

pub returns-then-is_open-clause-found : goal.returns-then-is_open-clause-found
returns-then-is_open-clause-found c =
    let first = c.in-Some.ensures in
    let rest = take_rest c.args.bytes.now (c.in-Some.i + 1) in
    let none : c.empty_line_length-n.result ≡ 0 = omega arith in
    let shut = c.is_open.ensures.open c.if-is_open.true in
    let so_far = section_to c.args.bytes.now c.args.at.now c.loop-i.from c.in-Some.i first.0 c.loop-i.invariant.1 in
    section_open c.args.bytes.now c.args.at.now c.in-Some.i first.0.high (cc (rest, none, c.empty_line_length-n.ensures.value)) (cc (rest, shut)) so_far

pub returns-then-is_open-clause-same : goal.returns-then-is_open-clause-same
returns-then-is_open-clause-same c =
    section_to c.args.bytes.now c.args.at.now c.loop-i.from c.in-Some.i c.in-Some.ensures.0 c.loop-i.invariant.1

pub loop-i-smaller : goal.loop-i-smaller
loop-i-smaller c =
    let first = c.in-Some.ensures in
    omega (arith, first.0.low, first.0.high)

pub loop-i-preserved : goal.loop-i-preserved
loop-i-preserved c =
    let first = c.in-Some.ensures in
    let rest = take_rest c.args.bytes.now (c.in-Some.i + 1) in
    let none : c.empty_line_length-n.result ≡ 0 = omega arith in
    let so_far = section_to c.args.bytes.now c.args.at.now c.loop-i.from c.in-Some.i first.0 c.loop-i.invariant.1 in (
      omega (arith, first.0.high),
      section_step c.args.bytes.now c.args.at.now c.in-Some.i first.0.high
          (λ _. rw rest at (c.is_open.ensures.closed c.if-is_open.false)) (λ _. cc (rest, none, c.empty_line_length-n.ensures.value)) so_far,
    )

pub returns-clause-found : goal.returns-clause-found
returns-clause-found c =
    let so_far = section_past c.args.bytes.now c.args.at.now c.loop-i.from (length c.args.bytes.now) c.loop-i.invariant.0 (omega arith) c.in_default.ensures c.loop-i.invariant.1 in
    ended lines_len lines_len c.args.bytes.now c.args.at.now (length c.args.bytes.now) (omega arith) refl so_far

pub returns-clause-same : goal.returns-clause-same
returns-clause-same c =
    section_past c.args.bytes.now c.args.at.now c.loop-i.from (length c.args.bytes.now) c.loop-i.invariant.0 (omega arith) c.in_default.ensures c.loop-i.invariant.1
