-- What becomes of the lines that come: each is kept in its place, or counted among those lost.
use Rattle.std.specs.Prelude.{◌≡◌, ◌+◌, ◌-◌, ◌^◌, ◌≤◌, ◌<◌, min, ℕ, List, [], ◌∷◌, ◌++◌, length, Option, Some, None, string_bytes}
use Rattle.std.specs.declared.string.String.{String}
use Rattle.std.specs.declared.alloc.Global.{Global}
use Rattle.asgi_log.specs.declared.backlog.Kept.{Kept}

-- the text of a line
abbrev pub Text : Type 0
Text = String Global

-- a count of so many: a number of 64 bits
abbrev pub counted : ℕ → ℕ
counted many = min many (2 ^ 64 - 1)

-- the line that stands there, if one does
abbrev pub said : Option Text → List (Option Text)
said (Some text) = Some text ∷ []
said None = []

-- All lines that came, in order, where no text is one whose memory was refused: before each that was kept as many lost ones as are
-- counted there, and at the end so many
abbrev pub Accounts : List Kept → ℕ → List (Option Text) → Type 0
Accounts [] lost came = lost ≡ counted (length came)
Accounts (kept ∷ more) lost came =
    (gone rest : List (Option Text)) × (came ≡ gone ++ said kept.line ++ rest) × (kept.lost ≡ counted (length gone)) × Accounts more lost rest

-- a line that is kept behind so many lost ones
abbrev pub kept_line : ℕ → Text → Kept
kept_line lost text = record { lost = lost; line = Some text }

-- how many bytes a line has
abbrev pub size : Option Text → ℕ
size (Some text) = length (string_bytes text)
size None = 0

-- how many bytes the lines have that wait
abbrev pub size_of : List Kept → ℕ
size_of [] = 0
size_of (kept ∷ more) = size kept.line + size_of more

-- there is a place for the line among those that wait, of so many, and so many bytes are free
abbrev pub HasRoom : ℕ → ℕ → List Kept → Text → Type 0
HasRoom most free waiting text = (length waiting < most) × (length (string_bytes text) ≤ free)
