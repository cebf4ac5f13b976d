-- The statuses of the refusals that a server writes by itself.
use Rattle.std.specs.Prelude.{ℕ, Bool, ◌||◌, ◌==◌}

abbrev pub is_refusal : ℕ → Bool
is_refusal status =
    status == 400 || status == 403 || status == 413 || status == 426 || status == 431 || status == 500 || status == 501
