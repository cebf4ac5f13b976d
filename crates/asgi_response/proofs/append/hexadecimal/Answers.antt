use Rattle.std.proofs.Common.{◌≡◌, ◌+◌, ◌-◌, ◌∙◌, ap, false, List, ℕ, arith}
use Rattle.std.proofs.lemmas.List.{length-set}
use Rattle.std.proofs.Math.ListN.{drop_of_length-le}
use Rattle.std.specs.Fmt.{digits, digits_onto}
use Rattle.asgi_response.proofs.DigitLemmas.{last_digit, next_digit, rest_fits, no_rest}
use Rattle.asgi_response.proofs.append.hexadecimal.Goals as goal

pub loop-at-init : goal.loop-at-init
unfolding digits
loop-at-init c = record {
  inside = omega arith;
  size = c.told-buffer;
  rest = c.ranges.number.fits;
  more = λ h. absurd (omega (arith, h));
  front = ap (λ (rest : List ℕ). digits_onto 64 16 false c.args.number rest) (drop_of_length-le c.args.buffer.now {i = 16} (omega (arith, c.told-buffer)));
}

pub returns-then-rest-eq0-clause-digits : goal.returns-then-rest-eq0-clause-digits
returns-then-rest-eq0-clause-digits c =
    last_digit (c.loop-at.at - 1) c.loop-at.at c.loop-at.rest c.digit.result c.loop-at.buffer (digits 16 false c.args.number)
    (omega (arith, c.loop-at-test.true)) (omega (arith, c.loop-at-test.true, c.loop-at.invariant.inside, c.loop-at.invariant.size))
    c.digit.ensures c.if-rest-eq0.true c.loop-at.invariant.front

pub loop-at-preserved : goal.loop-at-preserved
loop-at-preserved c =
    let before : c.loop-at.at ≡ (c.loop-at.at - 1) + 1 = omega (arith, c.loop-at-test.true) in
    record {
      inside = omega (arith, c.loop-at.invariant.inside);
      size = length-set c.loop-at.buffer (c.loop-at.at - 1) c.digit.result ∙ c.loop-at.invariant.size;
      rest = rest_fits (c.loop-at.at - 1) c.loop-at.at c.loop-at.rest before c.loop-at.invariant.rest;
      more = λ h. omega (arith, c.if-rest-eq0.false);
      front = next_digit (c.loop-at.at - 1) c.loop-at.at c.loop-at.rest c.digit.result c.loop-at.buffer (digits 16 false c.args.number)
          before (omega (arith, c.loop-at-test.true, c.loop-at.invariant.inside, c.loop-at.invariant.size))
          c.digit.ensures c.if-rest-eq0.false c.loop-at.invariant.front;
    }

pub returns-clause-digits : goal.returns-clause-digits
returns-clause-digits c = absurd (no_rest c.loop-at.at c.loop-at.rest c.loop-at-test.false c.loop-at.invariant.rest c.loop-at.invariant.more)
