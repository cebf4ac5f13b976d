-- The target of a request (RFC 9112, section 3.2), and the parts of it that a scope shows.
use Rattle.std.specs.Prelude.{ℕ, Bool, ◌&&◌, ◌||◌, not, List, [], ◌∷◌, length, take, drop, if◌then◌else◌, ◌==◌, nat_lt, codes, bytes_eq, slice_index}
use Rattle.asgi_types.specs.Tokens.{same_ignoring_case}

-- b'/'
abbrev pub slash : ℕ
slash = 47

-- b'?'
abbrev pub question_mark : ℕ
question_mark = 63

-- ---- the forms

-- origin-form (section 3.2.1)
abbrev pub is_origin_form : List ℕ → Bool
is_origin_form target = nat_lt 0 (length target) && slice_index target 0 == slash

-- the scheme in any case, and then a byte of an authority
abbrev pub has_authority : List ℕ → List ℕ → Bool
has_authority target scheme =
    nat_lt (length scheme) (length target) && same_ignoring_case (take (length scheme) target) scheme
    && not (slice_index target (length scheme) == slash) && not (slice_index target (length scheme) == question_mark)

-- absolute-form (section 3.2.2)
abbrev pub is_absolute_form : List ℕ → Bool
is_absolute_form target = has_authority target (codes "http://") || has_authority target (codes "https://")

-- asterisk-form, with OPTIONS alone (section 3.2.4)
abbrev pub is_asterisk_form : List ℕ → List ℕ → Bool
is_asterisk_form method target = bytes_eq target (codes "*") && bytes_eq method (codes "OPTIONS")

-- the target has a form that is allowed with the method
abbrev pub is_target : List ℕ → List ℕ → Bool
is_target method target = is_origin_form target || is_asterisk_form method target || is_absolute_form target

-- ---- the parts (RFC 3986, section 3)

-- the bytes from the first `/` or `?`, which is where an authority ends
abbrev pub after_authority : List ℕ → List ℕ
after_authority [] = []
after_authority (b ∷ bytes) = if b == slash || b == question_mark then b ∷ bytes else after_authority bytes

-- the target without a scheme and an authority
abbrev pub path_and_query : List ℕ → List ℕ
path_and_query target =
    if has_authority target (codes "http://") then after_authority (drop (length (codes "http://")) target) else
    (if has_authority target (codes "https://") then after_authority (drop (length (codes "https://")) target) else target)

-- the bytes up to the first `?`
abbrev pub before_query : List ℕ → List ℕ
before_query [] = []
before_query (b ∷ bytes) = if b == question_mark then [] else b ∷ before_query bytes

-- the bytes after the first `?`
abbrev pub after_question_mark : List ℕ → List ℕ
after_question_mark [] = []
after_question_mark (b ∷ bytes) = if b == question_mark then bytes else after_question_mark bytes

-- an empty path is that of the root (RFC 9110, section 4.2.3)
abbrev pub or_root : List ℕ → List ℕ
or_root [] = slash ∷ []
or_root (b ∷ bytes) = b ∷ bytes

-- the path as it was received
abbrev pub path_of : List ℕ → List ℕ
path_of target = or_root (before_query (path_and_query target))

-- the query as it was received, empty if there is none
abbrev pub query_of : List ℕ → List ℕ
query_of target = after_question_mark (path_and_query target)
