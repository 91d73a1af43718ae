use Rattle.std.proofs.Common.{◌≡◌, ℕ, ◌+◌, ◌*◌, ◌%◌, ◌^◌, List, [], ◌∷◌, refl, ap, ◌∙◌, rules}
use Rattle.std.specs.List.{fold}
use Rattle.std.proofs.iter.runs.Made.{chains}
use Rattle.outputs.specs.Digests.{digest_from}
use Rattle.outputs.proofs.text.calls.TextOutput.digest.Goals as goal

abbrev step : ℕ → ℕ → ℕ
step h a = (h * 31 % 2 ^ 64 + a) % 2 ^ 64

fold_is_digest : (h : ℕ) (xs : List ℕ) → fold step h xs ≡ digest_from h xs
fold_is_digest h [] = refl
fold_is_digest h (a ∷ xs) = fold_is_digest (step h a) xs

pub returns : goal.returns
returns c =
    let xs = c.as_bytes.result.now in
    let folded : c.fold.result ≡ fold step 0 xs = search (rules, chains) in
    folded ∙ fold_is_digest 0 xs ∙ ap (digest_from 0) c.as_bytes.ensures
