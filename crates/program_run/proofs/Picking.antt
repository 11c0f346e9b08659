-- What the first word asks for.
use Rattle.std.proofs.Common.{◌≡◌, ℕ, List, [], ◌∷◌, Bor, Some, None, slice_get, sym, ap, ◌∙◌}
use Rattle.std.specs.Prelude.{codes}
use Rattle.store_open.specs.Words.{texts_of}
use Rattle.program_run.specs.Runs.{AsksLinks}

pub first_asks : (words : List (Bor (List ℕ))) (word : Bor (List ℕ)) → Some word ≡ slice_get words 0 → word.now ≡ codes "serve" → AsksLinks (texts_of words)
first_asks [] word at is = let none : Some word ≡ None = at in cc
first_asks (first ∷ words) word at is = let same : Some word ≡ Some first = at in let equal : word ≡ first = cc in ap (λ (w : Bor (List ℕ)). w.now) (sym equal) ∙ is
