-- What a writer holds after one call and another.
use Rattle.std.proofs.Common.{◌≡◌, ℕ, ◌+◌, ◌-◌, List, [], ◌++◌, length, take, drop, subst, refl, sym, ap, ◌∙◌, append_assoc, add-zero, Option, Some, None}
use Rattle.std.proofs.lemmas.List.{append-nil, take_rest}
use Rattle.std.proofs.Math.Seq.{take-add}
use Rattle.std.specs.Io.KnownBytes.{Keeps, Appends, Consumes}

pub Appends-nothing : (old new : Option (List ℕ)) → Keeps old new → Appends old new []
Appends-nothing None new k = tt
Appends-nothing (Some xs) None k = k
Appends-nothing (Some xs) (Some ys) k = k ∙ sym (append-nil xs)

pub Keeps-same : (old : Option (List ℕ)) → Keeps old old
Keeps-same None = tt
Keeps-same (Some xs) = refl

pub Keeps-then : (old mid new : Option (List ℕ)) → Keeps old mid → Keeps mid new → Keeps old new
Keeps-then None mid new a b = tt
Keeps-then (Some xs) None new a b = absurd a
Keeps-then (Some xs) (Some ys) None a b = b
Keeps-then (Some xs) (Some ys) (Some zs) a b = b ∙ a

pub Appends-after_Keeps : (old mid new : Option (List ℕ)) (bs : List ℕ) → Keeps old mid → Appends mid new bs → Appends old new bs
Appends-after_Keeps None mid new bs a b = tt
Appends-after_Keeps (Some xs) None new bs a b = absurd a
Appends-after_Keeps (Some xs) (Some ys) None bs a b = b
Appends-after_Keeps (Some xs) (Some ys) (Some zs) bs a b = b ∙ ap (λ (l : List ℕ). l ++ bs) a

pub Appends-then : (old mid new : Option (List ℕ)) (front bs : List ℕ) → Appends old mid front → Appends mid new bs → Appends old new (front ++ bs)
Appends-then None mid new front bs a b = tt
Appends-then (Some xs) None new front bs a b = absurd a
Appends-then (Some xs) (Some ys) None front bs a b = b
Appends-then (Some xs) (Some ys) (Some zs) front bs a b = b ∙ ap (λ (l : List ℕ). l ++ bs) a ∙ append_assoc xs front bs

pub Appends-more : (old mid new : Option (List ℕ)) (text : List ℕ) (at n : ℕ) → Appends old mid (take at text)
    → Appends mid new (take n (take (length text - at) (drop at text))) → Appends old new (take (at + n) text)
Appends-more old mid new text at n a b =
    subst (λ (bs : List ℕ). Appends old new bs)
    (ap (λ (l : List ℕ). take at text ++ take n l) (take_rest text at) ∙ sym (take-add at n text))
    (Appends-then old mid new (take at text) (take n (take (length text - at) (drop at text))) a b)

-- a write that took nothing adds nothing
pub Appends-none : (old mid new : Option (List ℕ)) (text : List ℕ) (at n : ℕ) → n ≡ 0 → Appends old mid (take at text)
    → Appends mid new (take n (take (length text - at) (drop at text))) → Appends old new (take at text)
Appends-none old mid new text at n none a b =
    subst (λ (k : ℕ). Appends old new (take k text)) (ap (λ (k : ℕ). at + k) none ∙ add-zero at) (Appends-more old mid new text at n a b)

pub Consumes-nothing : (old new : Option (List ℕ)) → Keeps old new → Consumes old new []
Consumes-nothing None new k = tt
Consumes-nothing (Some xs) None k = k
Consumes-nothing (Some xs) (Some ys) k = sym k

pub Consumes-then : (old mid new : Option (List ℕ)) (front bs : List ℕ) → Consumes old mid front → Consumes mid new bs → Consumes old new (front ++ bs)
Consumes-then None mid new front bs a b = tt
Consumes-then (Some xs) None new front bs a b = absurd a
Consumes-then (Some xs) (Some ys) None front bs a b = b
Consumes-then (Some xs) (Some ys) (Some zs) front bs a b = a ∙ ap (λ (l : List ℕ). front ++ l) b ∙ sym (append_assoc front bs zs)

pub Consumes-kept : (old mid new : Option (List ℕ)) (front : List ℕ) → Consumes old mid front → Keeps mid new → Consumes old new front
Consumes-kept None mid new front a k = tt
Consumes-kept (Some xs) None new front a k = absurd a
Consumes-kept (Some xs) (Some ys) None front a k = k
Consumes-kept (Some xs) (Some ys) (Some zs) front a k = a ∙ ap (λ (l : List ℕ). front ++ l) (sym k)
