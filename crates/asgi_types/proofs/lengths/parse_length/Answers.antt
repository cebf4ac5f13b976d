use Rattle.std.proofs.Common.{arith}
use Rattle.asgi_types.proofs.LengthLemmas.{few_digits}
use Rattle.asgi_types.proofs.lengths.parse_length.Goals as goal

pub overflow_mul-number : goal.overflow_mul-number
overflow_mul-number c =
    let few = few_digits c.loop-byte.number c.loop-byte.byte-index _ c.loop-byte.invariant.2 c.loop-byte-test.true c.if-text-gt19.false in
    omega (arith, few)

pub overflow_add-number : goal.overflow_add-number
overflow_add-number c =
    let few = few_digits c.loop-byte.number c.loop-byte.byte-index _ c.loop-byte.invariant.2 c.loop-byte-test.true c.if-text-gt19.false in
    omega (arith, few, c.if-not-is_ascii_digit.ensures.bound)
