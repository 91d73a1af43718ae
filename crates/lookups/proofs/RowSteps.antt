-- The first arc of a row that was read part by part, and the end of an opened state. Assumes nothing.
use Rattle.std.proofs.Common.{◌≡◌, ℕ, ◌+◌, ◌-◌, ◌<◌, Bool, List, [], ◌∷◌, length, Some, None, Option as Maybe, MatchOption, sym, subst, ◌∙◌, arith}
use Rattle.outputs.specs.Kinds.{Kind}
use Rattle.machines.specs.Machines.{Arc}
use Rattle.lookups.specs.declared.rows.Arc as Code
use Rattle.lookups.specs.declared.rows.Row.{Row}
use Rattle.lookups.specs.Standing.{ArcStands, RowStands}
use Rattle.lookups.specs.Lookups.{OutputRead, SameArc, RowOf, Next}

module _ {O : Type 0} (k : Kind) (meaning : O → k.Ideal) (all : List Bool) (row : Row) (some_left : 0 < row.left) where
  -- a row that has an arc has a first one
  pub next_read : (read : Code.Arc O) (rest : Row) → ((arc : Arc k.Ideal) → ArcStands k all row.place arc → SameArc k meaning arc read × (rest.place ≡ row.place + 24 + length (k.code arc.output))) → rest.left ≡ row.left - 1
      → (arcs : List (Arc k.Ideal)) → RowOf k all row arcs → Next k meaning all arcs (Some (read, rest))
  next_read read rest h e [] r = absurd (omega (arith, r.many))
  next_read read rest h e (arc ∷ arcs) r =
      let f = h arc r.stands.0 in
      (f.0, record { many = omega (arith, e, r.many); stands = subst (λ (p : ℕ). RowStands k all p arcs) (sym f.1) r.stands.1 })

  pub next_lacks : (answer : Maybe (Code.Arc O × Row)) → ((arc : Arc k.Ideal) → ArcStands k all row.place arc → ⊥) → (arcs : List (Arc k.Ideal)) → RowOf k all row arcs → Next k meaning all arcs answer
  next_lacks answer h [] r = absurd (omega (arith, r.many))
  next_lacks answer h (arc ∷ arcs) r = absurd (h arc r.stands.0)

-- the place behind an output that was read
pub behind_read : {O : Type 0} (k : Kind) (meaning : O → k.Ideal) (p : ℕ) (x : k.Ideal) (r : Maybe (O × ℕ)) (n : ℕ) (Post : O × ℕ → Type 0) → MatchOption r (n ≡ p) Post → ((y : O × ℕ) → Post y → n ≡ y.1) → OutputRead k meaning p x r → n ≡ p + length (k.code x)
behind_read k meaning p x None n Post h f o = absurd o
behind_read k meaning p x (Some y) n Post h f o = f y h ∙ o.1
