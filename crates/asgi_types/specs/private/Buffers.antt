-- Words of private functions, which state no promise: the text of a buffer gives the buffer back.
use Rattle.std.specs.Prelude.{◌≡◌, ℕ, ◌-◌, ◌≤◌, List, ◌++◌, length, take, replicate}
use Rattle.std.proofs.Common.{ap, ◌∙◌, sym, subst, length-take-le, take-append-drop}
use Rattle.asgi_types.specs.declared.reason.Reason.TheInside.{Inside}
use Rattle.asgi_types.specs.private.Reasons.{IsPadded, IsReason, padded}

pub length-text : (text : List ℕ) (n : ℕ) → IsPadded text n → length (take n text) ≡ n
length-text text n h = length-take-le n text (subst (λ (m : ℕ). n ≤ m) (sym h.size) h.fits)

pub padded-text : (text : List ℕ) (n : ℕ) → IsPadded text n → padded (take n text) ≡ text
padded-text text n h =
    ap (λ (m : ℕ). take n text ++ replicate (123 - m) 0) (length-text text n h)
    ∙ ap (λ (rest : List ℕ). take n text ++ rest) (sym h.padding) ∙ take-append-drop n text

-- two buffers of the same parts
same_buffer : (s t : List ℕ) (m n : ℕ) → s ≡ t → m ≡ n → (let a : Inside = record { text = s; len = m } in a) ≡ (let b : Inside = record { text = t; len = n } in b)
same_buffer s t m n texts lens = cc

pub buffer_back : (a : Inside) → IsReason a.text a.len
    → (let b : Inside = record { text = padded (take a.len a.text); len = length (take a.len a.text) } in b) ≡ a
buffer_back a h = same_buffer (padded (take a.len a.text)) a.text (length (take a.len a.text)) a.len (padded-text a.text a.len h.in_buffer) (length-text a.text a.len h.in_buffer)
