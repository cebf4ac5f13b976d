-- Blocks are cut off one after another.
use Rattle.std.proofs.Common.{◌≡◌, ℕ, zero, suc, ◌+◌, ◌-◌, ◌*◌, ◌/◌, ◌<◌, ◌≤◌, Bool, true, false, List, [], ◌∷◌, ◌++◌, length, take, drop, map, refl, sym, ap, ◌∙◌, arith}
use Rattle.std.specs.Prelude.{nat_le, if◌then◌else◌}
use Rattle.std.proofs.lemmas.Bool.Decides.{nat_tests}
use Rattle.std.proofs.lemmas.List.{length-take, length-take-le, length-drop, take_all, drop-drop}
use Rattle.std.proofs.lemmas.Nat.{div-mul-add}
use Rattle.std.proofs.Math.Nat.{add-div_left}
use Rattle.asgi_types.specs.declared.incoming.Incoming.{Incoming}
use Rattle.asgi_request.specs.RequestEvents.{first_blocks, blocks, full_blocks, more_event, last_event, blocks_before_last, length_events, length_state, piece_blocks}
use Rattle.asgi_request.specs.ChunkedBody.{BodyState, partial, complete, Piece}

-- ---- numbers

div_small : (n b : ℕ) → n < b → n / b ≡ 0
div_small n b h = ap (λ k. k / b) (omega arith) ∙ div-mul-add 0 b n h

div_more : (n m b : ℕ) → 0 < b → m ≡ b + n → m / b ≡ suc (n / b)
div_more n m b h e = ap (λ k. k / b) e ∙ add-div_left n h ∙ omega arith

le_yes : (n l : ℕ) → n ≤ l → nat_le n l ≡ true
le_yes n l h = grind (arith, nat_tests)

le_no : (n l : ℕ) → l < n → nat_le n l ≡ false
le_no n l h = grind (arith, nat_tests)

yes_le : (n l : ℕ) → nat_le n l ≡ true → n ≤ l
yes_le n l h = grind (arith, nat_tests)

no_le : (n l : ℕ) → nat_le n l ≡ false → l < n
no_le n l h = grind (arith, nat_tests)

-- ---- lists

pub take-take-le : (a b : ℕ) (l : List ℕ) → a ≤ b → take a (take b l) ≡ take a l
take-take-le zero b l h = refl
take-take-le (suc a) zero l h = absurd (omega (arith, h))
take-take-le (suc a) (suc b) [] h = refl
take-take-le (suc a) (suc b) (x ∷ l) h = ap (λ (r : List ℕ). x ∷ r) (take-take-le a b l (omega (arith, h)))

pub drop-take : (a b : ℕ) (l : List ℕ) → drop a (take b l) ≡ take (b - a) (drop a l)
drop-take zero b l = ap (λ k. take k l) (omega arith)
drop-take (suc a) zero l = refl_nil (suc a) l
  where
    refl_nil : (a : ℕ) (l : List ℕ) → drop a (take 0 l) ≡ take (0 - a) (drop a l)
    refl_nil zero l = refl
    refl_nil (suc a) l = ap (λ k. take k (drop (suc a) l)) (let z : 0 ≡ 0 - suc a = omega arith in z)
drop-take (suc a) (suc b) [] = nil (suc b - suc a)
  where
    nil : (k : ℕ) → (let none : List ℕ = [] in none ≡ take k [])
    nil zero = refl
    nil (suc k) = refl
drop-take (suc a) (suc b) (x ∷ l) = drop-take a b l ∙ ap (λ k. take k (drop a l)) (let z : b - a ≡ suc b - suc a = omega arith in z)

-- ---- a body of n bytes

count_more : (block n : ℕ) → 0 < block → block < n → blocks_before_last block n ≡ suc (blocks_before_last block (n - block))
count_more block n h far = div_more (n - block - 1) (n - 1) block h (omega (arith, far, h))

whole_events : ℕ → ℕ → ℕ → List ℕ → List Incoming
whole_events block count n bytes = map more_event (first_blocks count block (take n bytes)) ++ last_event (drop (count * block) (take n bytes)) ∷ []

events_by : ℕ → ℕ → List ℕ → Bool → List Incoming
events_by block n bytes b = if b then whole_events block (blocks_before_last block n) n bytes else map more_event (full_blocks block bytes)

-- one block of several
pub length_more : (block n : ℕ) (bytes : List ℕ) → 0 < block → block < n → block ≤ length bytes
    → length_events block n bytes ≡ more_event (take block bytes) ∷ length_events block (n - block) (drop block bytes)
unfolding whole_events events_by
length_more block n bytes h far there = by (nat_le n (length bytes)) refl
  where
    step : (count : ℕ) → first_blocks (suc count) block (take n bytes) ≡ take block bytes ∷ first_blocks count block (take (n - block) (drop block bytes))
    step count =
        ap (λ (l : List ℕ). l ∷ first_blocks count block (drop block (take n bytes))) (take-take-le block n bytes (omega (arith, far)))
        ∙ ap (λ (l : List ℕ). take block bytes ∷ first_blocks count block l) (drop-take block n bytes)

    tail : (count : ℕ) → drop (suc count * block) (take n bytes) ≡ drop (count * block) (take (n - block) (drop block bytes))
    tail count =
        ap (λ k. drop k (take n bytes)) (let z : suc count * block ≡ block + count * block = omega arith in z)
        ∙ sym (drop-drop (count * block) block (take n bytes)) ∙ ap (drop (count * block)) (drop-take block n bytes)

    whole : (count : ℕ) → whole_events block (suc count) n bytes ≡ more_event (take block bytes) ∷ whole_events block count (n - block) (drop block bytes)
    whole count =
        ap (λ (l : List (List ℕ)). map more_event l ++ last_event (drop (suc count * block) (take n bytes)) ∷ []) (step count)
        ∙ ap (λ (l : List ℕ). more_event (take block bytes) ∷ (map more_event (first_blocks count block (take (n - block) (drop block bytes))) ++ last_event l ∷ [])) (tail count)

    by : (b : Bool) → nat_le n (length bytes) ≡ b → length_events block n bytes ≡ more_event (take block bytes) ∷ length_events block (n - block) (drop block bytes)
    by true e =
        let same : nat_le (n - block) (length (drop block bytes)) ≡ true =
        le_yes (n - block) (length (drop block bytes)) (omega (arith, yes_le n (length bytes) e, length-drop block bytes)) in
        ap (events_by block n bytes) e ∙ ap (λ k. whole_events block k n bytes) (count_more block n h far) ∙ whole (blocks_before_last block (n - block))
        ∙ sym (ap (λ (b : Bool). more_event (take block bytes) ∷ events_by block (n - block) (drop block bytes) b) same)
    by false e =
        let same : nat_le (n - block) (length (drop block bytes)) ≡ false =
        le_no (n - block) (length (drop block bytes)) (omega (arith, no_le n (length bytes) e, length-drop block bytes)) in
        let count : length bytes / block ≡ suc (length (drop block bytes) / block) =
        div_more (length (drop block bytes)) (length bytes) block h (omega (arith, there, length-drop block bytes)) in
        ap (events_by block n bytes) e ∙ ap (λ k. map more_event (first_blocks k block bytes)) count
        ∙ sym (ap (λ (b : Bool). more_event (take block bytes) ∷ events_by block (n - block) (drop block bytes) b) same)

state_by : ℕ → List ℕ → Bool → BodyState
state_by n bytes b = if b then complete (drop n bytes) else partial

pub state_more : (block n : ℕ) (bytes : List ℕ) → block < n → block ≤ length bytes → length_state n bytes ≡ length_state (n - block) (drop block bytes)
unfolding state_by
state_more block n bytes far there = by (nat_le n (length bytes)) refl
  where
    by : (b : Bool) → nat_le n (length bytes) ≡ b → length_state n bytes ≡ length_state (n - block) (drop block bytes)
    by true e =
        ap (state_by n bytes) e ∙ ap (λ (l : List ℕ). complete l) (sym (drop-drop (n - block) block bytes ∙ ap (λ k. drop k bytes) (let z : block + (n - block) ≡ n = omega (arith, far) in z)))
        ∙ sym (ap (state_by (n - block) (drop block bytes)) (le_yes (n - block) (length (drop block bytes)) (omega (arith, yes_le n (length bytes) e, length-drop block bytes))))
    by false e =
        ap (state_by n bytes) e ∙ sym (ap (state_by (n - block) (drop block bytes)) (le_no (n - block) (length (drop block bytes)) (omega (arith, no_le n (length bytes) e, length-drop block bytes))))

-- the last block
pub length_last : (block n : ℕ) (bytes : List ℕ) → 0 < block → n ≤ block → n ≤ length bytes
    → length_events block n bytes ≡ last_event (take n bytes) ∷ []
unfolding whole_events events_by
length_last block n bytes h near there =
    ap (events_by block n bytes) (le_yes n (length bytes) there)
    ∙ ap (λ k. whole_events block k n bytes) (div_small (n - 1) block (omega (arith, h, near)))
    ∙ ap (λ k. last_event (drop k (take n bytes)) ∷ []) (let z : 0 * block ≡ 0 = omega arith in z)

-- none
pub length_none : (block n : ℕ) (bytes : List ℕ) → length bytes < n → length bytes < block → length_events block n bytes ≡ []
unfolding whole_events events_by
length_none block n bytes far below =
    ap (events_by block n bytes) (le_no n (length bytes) far)
    ∙ ap (λ k. map more_event (first_blocks k block bytes)) (div_small (length bytes) block below)

-- ---- a chunk

-- the blocks of `left` bytes, as far as they are there
abbrev pub rest_blocks : ℕ → ℕ → List ℕ → List (List ℕ)
rest_blocks block left bytes = let p : Piece = record { size = left; data_bytes = take left bytes } in piece_blocks block p

blocks_by : ℕ → List ℕ → Bool → List (List ℕ)
blocks_by block bytes b = if b then blocks block bytes else full_blocks block bytes

there_yes : (left : ℕ) (bytes : List ℕ) → left ≤ length bytes → nat_le left (length (take left bytes)) ≡ true
there_yes left bytes h = le_yes left (length (take left bytes)) (omega (arith, length-take-le left bytes h))

there_no : (left : ℕ) (bytes : List ℕ) → length bytes < left → nat_le left (length (take left bytes)) ≡ false
there_no left bytes h = le_no left (length (take left bytes)) (omega (arith, h, length-take left bytes))

pub chunk_more : (block left : ℕ) (bytes : List ℕ) → 0 < block → block < left → block ≤ length bytes
    → rest_blocks block left bytes ≡ take block bytes ∷ rest_blocks block (left - block) (drop block bytes)
unfolding blocks_by
chunk_more block left bytes h far there = by (nat_le left (length bytes)) refl
  where
    step : (count : ℕ) → first_blocks (suc count) block (take left bytes) ≡ take block bytes ∷ first_blocks count block (take (left - block) (drop block bytes))
    step count =
        ap (λ (l : List ℕ). l ∷ first_blocks count block (drop block (take left bytes))) (take-take-le block left bytes (omega (arith, far)))
        ∙ ap (λ (l : List ℕ). take block bytes ∷ first_blocks count block l) (drop-take block left bytes)

    by : (b : Bool) → nat_le left (length bytes) ≡ b → rest_blocks block left bytes ≡ take block bytes ∷ rest_blocks block (left - block) (drop block bytes)
    by true e =
        let inside = yes_le left (length bytes) e in
        let size : length (take left bytes) ≡ left = length-take-le left bytes inside in
        let size' : length (take (left - block) (drop block bytes)) ≡ left - block =
        length-take-le (left - block) (drop block bytes) (omega (arith, inside, length-drop block bytes)) in
        let count : (length (take left bytes) + (block - 1)) / block ≡ suc ((length (take (left - block) (drop block bytes)) + (block - 1)) / block) =
        div_more (length (take (left - block) (drop block bytes)) + (block - 1)) (length (take left bytes) + (block - 1)) block h (omega (arith, size, size', far)) in
        ap (blocks_by block (take left bytes)) (there_yes left bytes inside) ∙ ap (λ k. first_blocks k block (take left bytes)) count
        ∙ step ((length (take (left - block) (drop block bytes)) + (block - 1)) / block)
        ∙ sym (ap (λ (b : Bool). take block bytes ∷ blocks_by block (take (left - block) (drop block bytes)) b)
        (there_yes (left - block) (drop block bytes) (omega (arith, inside, length-drop block bytes))))
    by false e =
        let outside = no_le left (length bytes) e in
        let size : length (take left bytes) ≡ length bytes = omega (arith, length-take left bytes, outside) in
        let size' : length (take (left - block) (drop block bytes)) ≡ length bytes - block =
        omega (arith, length-take (left - block) (drop block bytes), length-drop block bytes, outside) in
        let count : length (take left bytes) / block ≡ suc (length (take (left - block) (drop block bytes)) / block) =
        div_more (length (take (left - block) (drop block bytes))) (length (take left bytes)) block h (omega (arith, size, size', there)) in
        ap (blocks_by block (take left bytes)) (there_no left bytes outside) ∙ ap (λ k. first_blocks k block (take left bytes)) count
        ∙ step (length (take (left - block) (drop block bytes)) / block)
        ∙ sym (ap (λ (b : Bool). take block bytes ∷ blocks_by block (take (left - block) (drop block bytes)) b)
        (there_no (left - block) (drop block bytes) (omega (arith, outside, length-drop block bytes))))

pub chunk_last : (block left : ℕ) (bytes : List ℕ) → 0 < block → 0 < left → left ≤ block → left ≤ length bytes
    → rest_blocks block left bytes ≡ take left bytes ∷ []
unfolding blocks_by
chunk_last block left bytes h above near inside =
    let size : length (take left bytes) ≡ left = length-take-le left bytes inside in
    let count : (length (take left bytes) + (block - 1)) / block ≡ 1 =
    div_more (left - 1) (length (take left bytes) + (block - 1)) block h (omega (arith, size, above, h)) ∙ ap suc (div_small (left - 1) block (omega (arith, near, above))) in
    ap (blocks_by block (take left bytes)) (there_yes left bytes inside) ∙ ap (λ k. first_blocks k block (take left bytes)) count
    ∙ ap (λ (l : List ℕ). l ∷ []) (take_all block (take left bytes) (omega (arith, size, near)))

pub chunk_none : (block left : ℕ) (bytes : List ℕ) → length bytes < left → length bytes < block → rest_blocks block left bytes ≡ []
unfolding blocks_by
chunk_none block left bytes outside below =
    ap (blocks_by block (take left bytes)) (there_no left bytes outside)
    ∙ ap (λ k. first_blocks k block (take left bytes)) (div_small (length (take left bytes)) block (omega (arith, below, length-take left bytes)))
