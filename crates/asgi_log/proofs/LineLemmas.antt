-- The text of a line.
use Rattle.std.proofs.Common.{◌≡◌, ◌∙◌, ap, ℕ, List, ◌++◌, Option, Some, None, IfSome, codes}
use Rattle.asgi_log.specs.Lines.{log_line}

-- the moment stands before the text of the record, if that is known
pub prefixed : (o : Option (List ℕ)) (moment text line : List ℕ) → line ≡ moment ++ (codes " " ++ text)
    → IfSome o (λ said. text ≡ said ++ codes "\n") → IfSome o (λ said. line ≡ log_line (Some moment) said)
prefixed (Some said) moment text line is holds = is ∙ ap (λ it. moment ++ (codes " " ++ it)) holds
prefixed None moment text line is holds = tt
