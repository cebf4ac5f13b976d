-- Words of private functions, which state no promise: where a name stands among the entries of a state.
use Rattle.std.specs.Prelude.{◌≡◌, ℕ, ◌<◌, List, length, take, slice_get, slice_set, Some, None}
use Rattle.asgi_types.specs.declared.state.StateValue.{StateValue}
use Rattle.asgi_types.specs.States.{value_of}

-- the entry at the index is the first one of the name
pub record IsValueAt (es : List (List ℕ × StateValue)) (name : List ℕ) (index : ℕ) : Type 0 where
  pub inside : index < length es
  pub value : StateValue
  pub here : slice_get es index ≡ Some (name, value)
  pub first : value_of (take index es) name ≡ None

-- the new entries are the old ones with the value at the index
pub record IsReplaced (es : List (List ℕ × StateValue)) (index : ℕ) (value : StateValue) (new : List (List ℕ × StateValue)) : Type 0 where
  pub name : List ℕ
  pub before : StateValue
  pub here : slice_get es index ≡ Some (name, before)
  pub after : new ≡ slice_set es index (name, value)
