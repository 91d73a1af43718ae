-- Load takes the minimal machine back from the image of pairs within the limits, and only equal pairs have equal images. Assumes the laws of a kind.
use Rattle.std.proofs.Common.{◌≡◌, ℕ, [], ◌++◌, length, sym, ap, ◌∙◌}
use Rattle.outputs.specs.Kinds.{Kind, Laws}
use Rattle.machines.specs.Machines.{answer}
use Rattle.machines.specs.Minimal.{minimal, key_counts}
use Rattle.machines.proofs.Order.{ascending_eq}
use Rattle.machines.proofs.Theorems.{right_answers}
use Rattle.images.specs.Images.{image}
use Rattle.images.specs.Steps.{Step, reads}
use Rattle.images.specs.Loads.{load}
use Rattle.images.specs.RoundTrip.{PairsLoadBack, ImagesDiffer}
use Rattle.images.proofs.RoundTrip.{loads_back}
use Rattle.images.proofs.MinimalFits.{minimal_fits}

-- what is read is one
read_one : {A : Type 0} (s : Step A) (x y : A) (p q : ℕ) → s ≡ reads x p → s ≡ reads y q → x ≡ y
read_one s x y p q e f = cc

module _ (k : Kind) (laws : Laws k) where
  pub pairs_load_back : PairsLoadBack k
  pairs_load_back P within = loads_back k laws (minimal k P) (key_counts k P) (length P) (minimal_fits k laws P within)

  -- the image tells the machine, and the machine's answers tell the pairs
  pub images_differ : ImagesDiffer k
  images_differ P Q in_p inQ same =
      let machine : minimal k P ≡ minimal k Q
      = read_one (load k 65535 (image k P ++ [])) (minimal k P) (minimal k Q) _ _
      ((pairs_load_back P in_p).taken 65535 in_p.few_states [])
      (ap (λ bytes. load k 65535 (bytes ++ [])) same ∙ (pairs_load_back Q inQ).taken 65535 inQ.few_states []) in
      ascending_eq P Q in_p.proper.ascending inQ.proper.ascending
      (λ w. sym ((right_answers k laws P in_p.proper).answers w) ∙ ap (λ m. answer k m w) machine ∙ (right_answers k laws Q inQ.proper).answers w)
