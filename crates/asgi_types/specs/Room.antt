-- When bytes may be refused for lack of memory: only if there was no room for them.
use Rattle.std.specs.Prelude.{ℕ, ◌+◌, ◌<◌, List, length}

-- a vector of len bytes and of this capacity has no room for the text
abbrev pub LacksRoom : ℕ → ℕ → List ℕ → Type 0
LacksRoom capacity len text = capacity < len + length text
