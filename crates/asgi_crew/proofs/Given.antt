-- What the giver answered, and what was given.
use Rattle.std.proofs.Common.{◌≡◌, ℕ, ◌+◌, List, [], ◌∷◌, ◌++◌, length, map, refl, sym, ap, ◌∙◌, append_assoc, append-nil, Option, Some, None, arith}
use Rattle.std.proofs.lemmas.List.{map-append, length-map}
use Rattle.asgi_crew.specs.Shared.{numbered}
use Rattle.asgi_crew.specs.Ran.{items_of}

module _ {C : Type 0} where
  numbered_more : (n : ℕ) (cs : List C) (c : C) → numbered n (cs ++ c ∷ []) ≡ numbered n cs ++ (n + length cs + 1, c) ∷ []
  numbered_more n [] c = let e : n + 1 ≡ n + 0 + 1 = omega arith in ap (λ (m : ℕ). (m, c) ∷ []) e
  numbered_more n (x ∷ cs) c =
      let e : n + 1 + length cs + 1 ≡ n + length (x ∷ cs) + 1 = omega arith in
      ap (λ (l : List (ℕ × C)). (n + 1, x) ∷ l) (numbered_more (n + 1) cs c ∙ ap (λ (m : ℕ). numbered (n + 1) cs ++ (m, c) ∷ []) e)

  items_more : (given : List (ℕ × C)) (n : ℕ) (c : C) → items_of (given ++ (n, c) ∷ []) ≡ items_of given ++ c ∷ []
  items_more given n c = map-append (λ (i : ℕ × C). i.1) given ((n, c) ∷ [])

  -- one item more
  pub numbers_more : (given more : List (ℕ × C)) (n : ℕ) (c : C) → given ≡ numbered 0 (items_of given) → length given + 1 ≡ n → more ≡ given ++ (n, c) ∷ [] → more ≡ numbered 0 (items_of more)
  numbers_more given more n c is count grown =
      let long : 0 + length (items_of given) + 1 ≡ n = omega (arith, length-map given (λ (i : ℕ × C). i.1)) in
      grown ∙ ap (λ (l : List (ℕ × C)). l ++ (n, c) ∷ []) is
      ∙ ap (λ (m : ℕ). numbered 0 (items_of given) ++ (m, c) ∷ []) (sym long)
      ∙ sym (numbered_more 0 (items_of given) c)
      ∙ ap (λ (l : List C). numbered 0 l) (sym (items_more given n c))
      ∙ ap (λ (l : List (ℕ × C)). numbered 0 (items_of l)) (sym grown)

  pub answers_more : (start old new : List (Option C)) (given more : List (ℕ × C)) (n : ℕ) (c : C) → old ≡ start ++ map Some (items_of given) → new ≡ old ++ Some c ∷ []
      → more ≡ given ++ (n, c) ∷ [] → new ≡ start ++ map Some (items_of more)
  answers_more start old new given more n c is told grown =
      told ∙ ap (λ (l : List (Option C)). l ++ Some c ∷ []) is ∙ append_assoc start (map Some (items_of given)) (Some c ∷ [])
      ∙ ap (λ (l : List (Option C)). start ++ l) (sym (map-append Some (items_of given) (c ∷ [])))
      ∙ ap (λ (l : List C). start ++ map Some l) (sym (items_more given n c))
      ∙ ap (λ (l : List (ℕ × C)). start ++ map Some (items_of l)) (sym grown)

  pub count_more : (given more : List (ℕ × C)) (n count : ℕ) (c : C) → length given ≡ count → more ≡ given ++ (n, c) ∷ [] → length more ≡ count + 1
  count_more [] more n count c is grown = let e = ap length grown in omega arith
  count_more (x ∷ given) more n count c is grown = let e = ap length grown in omega (arith, count_more given (given ++ (n, c) ∷ []) n (length given) c refl refl)

  -- the giver gives no more
  pub answers_end : (start old new : List (Option C)) (given : List (ℕ × C)) → old ≡ start ++ map Some (items_of given) → new ≡ old ++ None ∷ []
      → new ≡ start ++ (map Some (items_of given) ++ None ∷ [])
  answers_end start old new given is told = told ∙ ap (λ (l : List (Option C)). l ++ None ∷ []) is ∙ append_assoc start (map Some (items_of given)) (None ∷ [])

  -- it was not asked any more
  pub answers_stay : (start new : List (Option C)) (given : List (ℕ × C)) → new ≡ start ++ map Some (items_of given) → new ≡ start ++ (map Some (items_of given) ++ [])
  answers_stay start new given is = is ∙ ap (λ (l : List (Option C)). start ++ l) (sym (append-nil (map Some (items_of given))))
