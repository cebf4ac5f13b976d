-- Each move keeps the rule of the channel.
use Rattle.std.proofs.Common.{◌≡◌, ◌≢◌, ℕ, suc, ◌+◌, ◌-◌, ◌<◌, List, [], ◌∷◌, ◌++◌, set, refl, sym, ap, ◌∙◌, subst, append_assoc, append-nil, length-append, flat_map, Option, Some, None, arith}
use mathlib.Core.Option.{some, some-ne-none}
use lib.ListN.{get_elem?}
use Rattle.std.specs.List.Sorted.{IsPermutation}
use Rattle.std.proofs.lemmas.List.{nil_from_length}
use Rattle.std.proofs.lemmas.List.Sorted.{IsPermutation-refl, IsPermutation-sym, IsPermutation-trans, IsPermutation-append_left, IsPermutation-append_right, IsPermutation-append_comm}
use Rattle.crossbeam_channel.specs.Fifo.{Pushes, Pops, Forks, Merges, Learns}
use Rattle.asgi_desk.specs.declared.book.Book.{Book}
use Rattle.asgi_desk.specs.declared.channel.Hand.{Hand}
use Rattle.asgi_desk.specs.private.Book.{all_of, added, IsKept, IsKeptFrom}
use Rattle.asgi_desk.specs.private.Channel.{took, gave, IsIdle, StartsFrom, IsFair}
use Rattle.asgi_desk.specs.Hands.{hand, seated, IsFree}
use Rattle.asgi_desk.proofs.Flat.{same_elements, flat_more, flat_same, flat_less, flat_both, flat_snoc, total_set, total_snoc, at_le, both_le, sole_flat, each_set, each_snoc, each_one}

module _ {N T : Type 0} (tells : T → T → ℕ → N → Type 0) where
  -- a seat with parts, and without the book
  idle_free : (parts : ℕ) (first : Option T) (put : List (ℕ × N)) → 0 < parts → IsIdle (seated parts first put)
  idle_free parts first put some_part = record { held_none = λ _. refl; put_none = λ none. absurd (omega arith) }

  pub begins : IsFair tells [] (hand 64 None [] 1 [] ∷ [])
  begins = record {
    parts = refl;
    one_book = refl;
    each_report = IsPermutation-refl [];
    idle = each_one IsIdle (hand 64 None [] 1 []) (record { held_none = λ _. refl; put_none = λ _. refl });
    first = None;
    same_first = each_one (StartsFrom None) (hand 64 None [] 1 []) (λ _. refl);
    kept = λ place b at. absurd (some-ne-none b (sym at));
  }

  -- who has the book in hand puts it back, with more in it
  puts : (port : ℕ) (v : Hand N T) (x : Book N T) (first : Option T) (more : List (ℕ × N)) → v.books ≡ 1 → 0 < v.parts
      → IsPermutation (v.held ++ more) (all_of x) → IsKeptFrom tells first x → (books : List (Book N T)) (views : List (Hand N T)) → IsFair tells books views
      → get_elem? views port ≡ some v → ((j : ℕ) (u : Hand N T) → j ≢ port → get_elem? views j ≡ some u → StartsFrom first u)
      → IsFair tells (books ++ x ∷ []) (set views port (seated v.parts first (v.put ++ more)))
  puts port v x first more has some_part same kept books views b at others =
      let w : Hand N T = seated v.parts first (v.put ++ more) in let ws = set views port w in
      let le = at_le (λ u. u.books) views port v at in let one = b.one_book in
      let none : books ≡ [] = nil_from_length books (omega arith) in
      let put : IsPermutation (flat_map (λ u. u.put) views ++ more) (flat_map (λ u. u.put) ws) = flat_more (λ u. u.put) views port v w more at refl in
      let held : IsPermutation (flat_map (λ u. u.held) views) (v.held ++ flat_map (λ u. u.held) ws) = flat_less (λ u. u.held) views port v w at refl in
      let all : IsPermutation (flat_map (λ u. u.put) views) (flat_map (λ u. u.held) views) =
      subst (λ (l : List (ℕ × N)). IsPermutation (flat_map (λ u. u.put) views) l)
      (ap (λ (l : List (Book N T)). flat_map (λ u. u.held) views ++ flat_map all_of l) none ∙ append-nil (flat_map (λ u. u.held) views)) b.each_report in
      let rest = flat_map (λ u. u.held) ws in
      let grown : IsPermutation (flat_map (λ u. u.put) ws) ((v.held ++ rest) ++ more) =
      IsPermutation-trans _ _ _ (IsPermutation-sym _ _ put) (IsPermutation-append_left more _ _ (IsPermutation-trans _ _ _ all held)) in
      let turned : IsPermutation ((v.held ++ rest) ++ more) (rest ++ (v.held ++ more)) =
      subst (λ (l : List (ℕ × N)). IsPermutation ((v.held ++ rest) ++ more) l) (append_assoc rest v.held more)
      (IsPermutation-append_left more _ _ (IsPermutation-append_comm v.held rest)) in
      let last : rest ++ all_of x ≡ rest ++ flat_map all_of (books ++ x ∷ []) =
      ap (λ (l : List (ℕ × N)). rest ++ l) (sym (append-nil (all_of x)) ∙ ap (λ (l : List (Book N T)). flat_map all_of (l ++ x ∷ [])) (sym none)) in record {
        parts = let s = total_set (λ u. u.parts) views port v w at in let p = b.parts in omega arith;
        one_book = let s = total_set (λ u. u.books) views port v w at in omega (arith, length-append books (x ∷ []));
        each_report = IsPermutation-trans _ _ _ grown (IsPermutation-trans _ _ _ turned
            (subst (λ (l : List (ℕ × N)). IsPermutation (rest ++ (v.held ++ more)) l) last (IsPermutation-append_right rest _ _ same)));
        idle = each_set IsIdle views port w (idle_free v.parts first (v.put ++ more) some_part) (λ j u two e. b.idle j u e);
        first = first;
        same_first = each_set (StartsFrom first) views port w (λ _. refl) others;
        kept = each_snoc (IsKeptFrom tells first) books x kept (λ j y e. absurd (some-ne-none y (sym (subst (λ (l : List (Book N T)). get_elem? l j ≡ some y) none e))));
      }

  pub opens : (n port : ℕ) (v : Hand N T) (x : Book N T) → v ≡ hand 64 None [] 1 [] → all_of x ≡ [] → IsKept tells x.teller x
      → Pushes (IsFair tells) n port v x (λ w. w ≡ seated v.parts (Some x.teller) v.put)
  opens n port v x is none kept books views room b at =
      let parts : v.parts ≡ 64 = ap (λ (h : Hand N T). h.parts) is in
      let held : v.held ≡ [] = ap (λ (h : Hand N T). h.held) is in
      let same : IsPermutation (v.held ++ []) (all_of x) = same_elements _ _ (append-nil v.held ∙ held ∙ sym none) in
      let others : (j : ℕ) (u : Hand N T) → j ≢ port → get_elem? views j ≡ some u → StartsFrom (Some x.teller) u =
      λ j u two e some_part. let le = both_le (λ y. y.parts) views port j v u two at e in let p = b.parts in absurd (omega arith) in (
        seated v.parts (Some x.teller) v.put,
        subst (λ (l : List (ℕ × N)). IsFair tells (books ++ x ∷ []) (set views port (seated v.parts (Some x.teller) l))) (append-nil v.put)
            (puts port v x (Some x.teller) [] (ap (λ (h : Hand N T). h.books) is) (omega arith) same (x.teller, refl, kept) books views b at others),
        refl,
      )

  pub gives : (n port : ℕ) (v : Hand N T) (x : Book N T) → v.books ≡ 1 → 0 < v.parts → IsPermutation (v.held ++ added x) (all_of x) → IsKeptFrom tells v.first x
      → Pushes (IsFair tells) n port v x (λ w. w ≡ gave v x)
  gives n port v x has some_part same kept books views room b at =
      let mine : v.first ≡ b.first = b.same_first port v at some_part in (
        gave v x,
        puts port v x v.first (added x) has some_part same kept books views b at (λ j u two e more. b.same_first j u e more ∙ sym mine),
        refl,
      )

  pub takes : (port : ℕ) (v : Hand N T) → 0 < v.parts → Pops (IsFair tells) port v (λ x w. (w ≡ took v x) × IsKeptFrom tells v.first x)
  takes port v some_part x books views b at =
      let w : Hand N T = took v x in let ws = set views port w in
      let mine : v.first ≡ b.first = b.same_first port v at some_part in
      let le = at_le (λ u. u.books) views port v at in let one = b.one_book in
      let none : v.held ≡ [] = (b.idle port v at).held_none (omega arith) in
      let put : flat_map (λ u. u.put) ws ≡ flat_map (λ u. u.put) views = flat_same (λ u. u.put) views port v w at refl in
      let held : IsPermutation (flat_map (λ u. u.held) views ++ all_of x) (flat_map (λ u. u.held) ws) =
      flat_more (λ u. u.held) views port v w (all_of x) at (ap (λ (l : List (ℕ × N)). l ++ all_of x) (sym none)) in
      let all : IsPermutation (flat_map (λ u. u.put) views) ((flat_map (λ u. u.held) views ++ all_of x) ++ flat_map all_of books) =
      subst (λ (l : List (ℕ × N)). IsPermutation (flat_map (λ u. u.put) views) l) (sym (append_assoc (flat_map (λ u. u.held) views) (all_of x) (flat_map all_of books))) b.each_report in (
        w,
        record {
          parts = let s = total_set (λ u. u.parts) views port v w at in let p = b.parts in omega arith;
          one_book = let s = total_set (λ u. u.books) views port v w at in omega arith;
          each_report = subst (λ (l : List (ℕ × N)). IsPermutation l (flat_map (λ u. u.held) ws ++ flat_map all_of books)) (sym put)
              (IsPermutation-trans _ _ _ all (IsPermutation-append_left (flat_map all_of books) _ _ held));
          idle = each_set IsIdle views port w (record { held_none = λ none. absurd (omega arith); put_none = λ none. absurd (omega arith) }) (λ j u two e. b.idle j u e);
          first = b.first;
          same_first = each_set (StartsFrom b.first) views port w (λ _. mine) (λ j u two e. b.same_first j u e);
          kept = λ place y e. b.kept (suc place) y e;
        },
        (refl, subst (λ (f : Option T). IsKeptFrom tells f x) (sym mine) (b.kept 0 x refl)),
      )

  pub forks : (port : ℕ) (v : Hand N T) → 1 < v.parts → IsFree v → Forks (IsFair tells) port v (seated (v.parts - 1) v.first v.put) (seated 1 v.first [])
  forks port v some_parts free books views b at =
      let l : Hand N T = seated (v.parts - 1) v.first v.put in let r : Hand N T = seated 1 v.first [] in let vs = set views port l in
      let mine : v.first ≡ b.first = b.same_first port v at (omega arith) in let no_book = free.0 in
      let put : flat_map (λ u. u.put) (vs ++ r ∷ []) ≡ flat_map (λ u. u.put) views = flat_snoc (λ u. u.put) vs r refl ∙ flat_same (λ u. u.put) views port v l at refl in
      let held : flat_map (λ u. u.held) (vs ++ r ∷ []) ≡ flat_map (λ u. u.held) views = flat_snoc (λ u. u.held) vs r refl ∙ flat_same (λ u. u.held) views port v l at (sym free.1) in record {
        parts = let s = total_set (λ u. u.parts) views port v l at in let p = b.parts in omega (arith, total_snoc (λ u. u.parts) vs r);
        one_book = let s = total_set (λ u. u.books) views port v l at in let p = b.one_book in omega (arith, total_snoc (λ u. u.books) vs r);
        each_report = rw (put, held) b.each_report;
        idle = each_snoc IsIdle vs r (idle_free 1 v.first [] (omega arith)) (each_set IsIdle views port l (idle_free (v.parts - 1) v.first v.put (omega arith)) (λ j u two e. b.idle j u e));
        first = b.first;
        same_first = each_snoc (StartsFrom b.first) vs r (λ _. mine) (each_set (StartsFrom b.first) views port l (λ _. mine) (λ j u two e. b.same_first j u e));
        kept = b.kept;
      }

  pub merges : (port : ℕ) (v : Hand N T) (other : ℕ) (u : Hand N T) → 0 < v.parts → IsFree v → IsFree u
      → Merges (IsFair tells) port v other u (seated (v.parts + u.parts) v.first (v.put ++ u.put)) (seated 0 None [])
  merges port v other u some_part free free-2 books views b at two at-2 =
      let both : Hand N T = seated (v.parts + u.parts) v.first (v.put ++ u.put) in let spent : Hand N T = seated 0 None [] in
      let vs = set views port both in let ws = set vs other spent in
      let mine : v.first ≡ b.first = b.same_first port v at some_part in let no_book = free.0 in let no_book-2 = free-2.0 in
      let put : IsPermutation (flat_map (λ y. y.put) views) (flat_map (λ y. y.put) ws) = flat_both (λ y. y.put) views port v other u both spent at two at-2 refl refl in
      let held : flat_map (λ y. y.held) ws ≡ flat_map (λ y. y.held) views =
      flat_same (λ y. y.held) vs other u spent at-2 (sym free-2.1) ∙ flat_same (λ y. y.held) views port v both at (sym free.1) in record {
        parts = let s = total_set (λ y. y.parts) views port v both at in let t = total_set (λ y. y.parts) vs other u spent at-2 in let p = b.parts in omega arith;
        one_book = let s = total_set (λ y. y.books) views port v both at in let t = total_set (λ y. y.books) vs other u spent at-2 in let p = b.one_book in omega arith;
        each_report = rw held (IsPermutation-trans _ _ _ (IsPermutation-sym _ _ put) b.each_report);
        idle = each_set IsIdle vs other spent (record { held_none = λ _. refl; put_none = λ _. refl })
            (λ j y two e. each_set IsIdle views port both (idle_free (v.parts + u.parts) v.first (v.put ++ u.put) (omega arith)) (λ j y two e. b.idle j y e) j y e);
        first = b.first;
        same_first = each_set (StartsFrom b.first) vs other spent (λ none. absurd (omega arith))
            (λ j y two e. each_set (StartsFrom b.first) views port both (λ _. mine) (λ j y two e. b.same_first j y e) j y e);
        kept = b.kept;
      }

  -- who has every part, and the book, has all that was handed in
  pub learns : (port : ℕ) (v : Hand N T) → v.parts ≡ 64 → v.books ≡ 1 → Learns (IsFair tells) port v (λ _. IsPermutation v.put v.held)
  learns port v all has books views b at =
      let le = at_le (λ u. u.books) views port v at in let one = b.one_book in
      let none : books ≡ [] = nil_from_length books (omega arith) in
      let put : flat_map (λ u. u.put) views ≡ v.put = sole_flat (λ u. u.parts) (λ u. u.put) views port v at (b.parts ∙ sym all) (λ j u e. (b.idle j u e).put_none) in
      let held : flat_map (λ u. u.held) views ≡ v.held = sole_flat (λ u. u.books) (λ u. u.held) views port v at (omega arith) (λ j u e. (b.idle j u e).held_none) in
      let last : flat_map (λ u. u.held) views ++ flat_map all_of books ≡ v.held =
      ap (λ (l : List (Book N T)). flat_map (λ u. u.held) views ++ flat_map all_of l) none ∙ append-nil (flat_map (λ u. u.held) views) ∙ held in
      subst (λ (l : List (ℕ × N)). IsPermutation l v.held) put (subst (λ (l : List (ℕ × N)). IsPermutation (flat_map (λ u. u.put) views) l) last b.each_report)
