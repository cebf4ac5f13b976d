use Rattle.std.proofs.Common.{◌≡◌, length, take, arith, length-take}
use Rattle.std.proofs.lemmas.Bool.Decides.{nat_tests}
use Rattle.asgi_request.proofs.KeyLemmas.{decoded_test, failed_test, first_bytes, key_from_decode, nonce_of_key, no_key}
use Rattle.asgi_request.proofs.key.decodes_to_nonce.Goals as goal

pub returns-in-Ok-clause-decides : goal.returns-in-Ok-clause-decides
returns-in-Ok-clause-decides c =
    let decoded = take c.in-Ok.size c.decode_slice_unchecked.new.output in
    let len : length decoded ≡ c.in-Ok.size = omega (arith, length-take c.in-Ok.size c.decode_slice_unchecked.new.output, c.in-Ok.ensures.ok.2) in
    decoded_test _ decoded c.in-Ok.size c.in-Ok.ensures.ok.0 len

pub returns-in-Ok-clause-key : goal.returns-in-Ok-clause-key
returns-in-Ok-clause-key c =
    let decoded = take c.in-Ok.size c.decode_slice_unchecked.new.output in
    let len : length decoded ≡ c.in-Ok.size = omega (arith, length-take c.in-Ok.size c.decode_slice_unchecked.new.output, c.in-Ok.ensures.ok.2) in (
      λ test. key_from_decode _ decoded (λ i. omega (arith, c.type_inv.key i)) (omega arith)
          (grind (arith, nat_tests)) (first_bytes _ _ (λ i. omega (arith, c.type_inv.decoded i))) c.in-Ok.ensures.ok.0,
      λ k. grind (arith, nat_tests, nonce_of_key _ decoded c.in-Ok.ensures.ok.0 k),
    )

pub returns-in-Err-clause-decides : goal.returns-in-Err-clause-decides
returns-in-Err-clause-decides c = failed_test _ c.in-Err.field-0 c.in-Err.ensures.err

pub returns-in-Err-clause-key : goal.returns-in-Err-clause-key
returns-in-Err-clause-key c = (λ no. absurd (cc no), λ k. absurd (no_key _ c.in-Err.field-0 c.in-Err.ensures.err k))
