-- One more line is kept behind the others or counted among those lost, and the oldest leaves: each that came is still accounted for, once and in order.
use Rattle.std.proofs.Common.{◌≡◌, ◌∙◌, ℕ, ◌+◌, ◌-◌, ◌^◌, min, List, [], ◌∷◌, ◌++◌, length, Option, Some, None, refl, sym, ap, subst, arith, length-append, append_assoc, append-nil, string_bytes}
use Rattle.asgi_log.specs.declared.backlog.Kept.{Kept}
use Rattle.asgi_log.specs.Waiting.{Accounts, Text, counted, said, kept_line, size, size_of}

-- one more behind what came, in the last part
at_the_end : (gone mid rest came : List (Option Text)) (line : Option Text) → came ≡ gone ++ mid ++ rest → came ++ line ∷ [] ≡ gone ++ mid ++ (rest ++ line ∷ [])
at_the_end gone mid rest came line same = ap (λ l. l ++ line ∷ []) same ∙ append_assoc (gone ++ mid) rest (line ∷ [])

-- one more is lost
pub one_lost : (waits : List Kept) (lost next : ℕ) (came : List (Option Text)) (line : Option Text) → next ≡ min (lost + 1) (2 ^ 64 - 1)
    → Accounts waits lost came → Accounts waits next (came ++ line ∷ [])
one_lost [] lost next came line more counts = omega (arith, more, counts, length-append came (line ∷ []))
one_lost (kept ∷ waits) lost next came line more (gone, rest, same, many, after) =
    (gone, rest ++ line ∷ [], at_the_end gone (said kept.line) rest came line same, many, one_lost waits lost next rest line more after)

-- one more is kept behind those that wait
pub one_kept : (waits : List Kept) (lost : ℕ) (came : List (Option Text)) (text : Text)
    → Accounts waits lost came → Accounts (waits ++ kept_line lost text ∷ []) 0 (came ++ Some text ∷ [])
one_kept [] lost came text counts = (came, [], sym (append-nil (came ++ Some text ∷ [])), counts, refl)
one_kept (kept ∷ waits) lost came text (gone, rest, same, many, after) =
    (gone, rest ++ Some text ∷ [], at_the_end gone (said kept.line) rest came (Some text) same, many, one_kept waits lost rest text after)

-- only lost ones are left, and they are told of
pub told : (taken : List Kept) (lost : ℕ) (kept : Kept) (came : List (Option Text)) → kept.lost ≡ lost → kept.line ≡ None
    → Accounts taken lost came → Accounts (taken ++ kept ∷ []) 0 came
told [] lost kept came so_many none counts = (came, [], rw none (sym (append-nil (came ++ []) ∙ append-nil came)), so_many ∙ counts, refl)
told (first ∷ taken) lost kept came so_many none (gone, rest, same, many, after) = (gone, rest, same, many, told taken lost kept rest so_many none after)

-- the same behind what was taken
pub kept_behind : (taken waits new : List Kept) (lost next : ℕ) (came : List (Option Text)) (text : Text) → new ≡ waits ++ kept_line lost text ∷ [] → next ≡ 0
    → Accounts (taken ++ waits) lost came → Accounts (taken ++ new) next (came ++ Some text ∷ [])
kept_behind taken waits new lost next came text behind none counts =
    rw (behind, none, sym (append_assoc taken waits (kept_line lost text ∷ []))) (one_kept (taken ++ waits) lost came text counts)

-- the oldest is taken
pub oldest_taken : (taken waits new : List Kept) (kept : Kept) (lost next : ℕ) (came : List (Option Text)) → waits ≡ kept ∷ new → next ≡ lost
    → Accounts (taken ++ waits) lost came → Accounts ((taken ++ kept ∷ []) ++ new) next came
oldest_taken taken waits new kept lost next came first same counts =
    rw (same, append_assoc taken (kept ∷ []) new) (subst (λ l. Accounts (taken ++ l) lost came) first counts)

-- only lost ones waited, and are told of
pub lost_taken : (taken waits new : List Kept) (kept : Kept) (lost next : ℕ) (came : List (Option Text)) → waits ≡ [] → new ≡ [] → next ≡ 0 → kept.lost ≡ lost → kept.line ≡ None
    → Accounts (taken ++ waits) lost came → Accounts ((taken ++ kept ∷ []) ++ new) next came
lost_taken taken waits new kept lost next came nothing none zeroed so_many no_line counts =
    rw (none, zeroed, append-nil (taken ++ kept ∷ [])) (told taken lost kept came so_many no_line (subst (λ l. Accounts l lost came) (ap (λ l. taken ++ l) nothing ∙ append-nil taken) counts))

-- one more line takes the bytes that it has
pub size_behind : (waits : List Kept) (lost : ℕ) (text : Text) → size_of (waits ++ kept_line lost text ∷ []) ≡ size_of waits + length (string_bytes text)
size_behind [] lost text = omega arith
size_behind (kept ∷ waits) lost text = let more = size_behind waits lost text in omega (arith, more)
