-- What a search from a state answers, step by step, for every machine that may be held. Assumes the laws of a kind.
use Rattle.std.proofs.Common.{◌≡◌, ℕ, ◌+◌, ◌<◌, ◌≤◌, Bool, true, false, List, [], ◌∷◌, length, set, Some, None, Option as Maybe, sym, refl, ap, ◌∙◌, subst, arith}
use mathlib.Core.Option.{some}
use Rattle.outputs.specs.Kinds.{Kind, Laws}
use Rattle.outputs.specs.Joins.{Tells}
use Rattle.machines.specs.Lists.{at}
use Rattle.machines.specs.Machines.{Arc, State, Machine}
use Rattle.machines.specs.Numbering.{Rising}
use Rattle.loading.specs.declared.held.Loaded.{Loaded}
use Rattle.lookups.specs.declared.rows.Arc as Code
use Rattle.lookups.specs.declared.rows.Row.{Row}
use Rattle.lookups.specs.declared.states.Opened.{Opened}
use Rattle.lookups.specs.Lookups.{bits_of, OpenedAs, Opens, RowOf, Next, Gives}
use Rattle.searching.specs.Searches.{Left, written, Sought}
use Rattle.searching.proofs.Strings.{ends_here, nowhere_missing, nowhere_deep, nowhere_here}
use Rattle.searching.proofs.Passing.{is_opened, not_opened, Passed, passed_none, passed_all, passed_other, passed_behind, found_behind}
use Rattle.searching.proofs.Writing.{written_none, written_more}

module _ (k : Kind) (all : List Bool) (Held : Machine k.Ideal → Type 0) (q : ℕ) (x : k.Ideal) (d : ℕ) where
  -- of each machine that may be held, the arcs of state q in front of a row are passed
  abbrev pub Passing : Row → Type 0
  Passing row = (m : Machine k.Ideal) → Held m → (s : State k.Ideal) → at m.states q ≡ some s → Passed k all m.states s.arcs x d row

-- what was given of the arcs of a loaded store is given of those of an equal one
pub given_by : {O S : Type 0} (k : Kind) (meaning : O → k.Ideal) (bytes : S → List ℕ) (l l' : Loaded O S) (row rest : Row) (r : Maybe (Code.Arc O)) → l ≡ l' → ((arcs : List (Arc k.Ideal)) → RowOf k (bits_of bytes l) row arcs → Gives k meaning (bits_of bytes l) arcs r rest)
    → (arcs : List (Arc k.Ideal)) → RowOf k (bits_of bytes l') row arcs → Gives k meaning (bits_of bytes l') arcs r rest
given_by {O} {S} k meaning bytes l l' row rest r e = subst (λ (z : Loaded O S). (arcs : List (Arc k.Ideal)) → RowOf k (bits_of bytes z) row arcs → Gives k meaning (bits_of bytes z) arcs r rest) e

module _ {O : Type 0} (k : Kind) (laws : Laws k) (meaning : O → k.Ideal) (all : List Bool) (Held : Machine k.Ideal → Type 0) (q : ℕ) (x : k.Ideal) (d : ℕ) where
  -- the state is not there
  pub seek_missing : (b : List ℕ) (r : Maybe ℕ) → r ≡ None → ((m : Machine k.Ideal) → Held m → Opens k all (at m.states q) None) → Sought k Held q x d b b r
  seek_missing b r e f = subst (Sought k Held q x d b b) (sym e) (refl, λ m h. nowhere_missing k laws m.states q x d (not_opened k all (at m.states q) (f m h)))

  module _ (opened : Opened) (opens : (m : Machine k.Ideal) → Held m → Opens k all (at m.states q) (Some opened)) where
    -- its end output is the one wanted
    pub seek_ends : (t : Bool) → ((s : State k.Ideal) → OpenedAs k all opened s → Tells s.end (some x) t) → t ≡ true → d ≤ 64 → (b : List ℕ) → Sought k Held q x d b b (Some d)
    seek_ends t tells e l b = (
      [],
      omega arith,
      l,
      written_none d b,
      λ m h. let o = is_opened k all (at m.states q) opened (opens m h) in ends_here k laws m.states q o.0 o.1 ∙ (tells o.0 o.2).equal e,
    )

    -- it is another, and no arc can be taken any more
    pub seek_deep : (t : Bool) → ((s : State k.Ideal) → OpenedAs k all opened s → Tells s.end (some x) t) → t ≡ false → 64 ≤ d → (b : List ℕ) → Sought k Held q x d b b None
    seek_deep t tells e l b = (
      refl,
      λ m h. let o = is_opened k all (at m.states q) opened (opens m h) in nowhere_deep k laws m.states q o.0 o.1 x d ((tells o.0 o.2).different e) l,
    )

    pub passing_none : (row : Row) → ((s : State k.Ideal) → OpenedAs k all opened s → RowOf k all row s.arcs) → Passing k all Held q x d row
    passing_none row f m h s here =
        let o = is_opened k all (at m.states q) opened (opens m h) in
        let same : o.0 ≡ s = cc in
        passed_none k laws meaning all m.states s.arcs x d row (subst (λ (z : State k.Ideal). RowOf k all row z.arcs) same (f o.0 o.2))

    module _ (row : Row) (passing : Passing k all Held q x d row) (b c : List ℕ) (kept : c ≡ b) where
      -- every arc is passed
      pub seek_passed : (t : Bool) → ((s : State k.Ideal) → OpenedAs k all opened s → Tells s.end (some x) t) → t ≡ false → ((arcs : List (Arc k.Ideal)) → RowOf k all row arcs → Next {O = O} k meaning all arcs None) → Sought k Held q x d b c None
      seek_passed t tells e next = (
        kept,
        λ m h.
            let o = is_opened k all (at m.states q) opened (opens m h) in
            let p = passing m h o.0 o.1 in
            nowhere_here k laws m.states q o.0 o.1 x d ((tells o.0 o.2).different e) (passed_all k laws meaning all m.states o.0.arcs x d row p (next p.more p.stands)),
      )

      module _ (read : Code.Arc O × Row) (next : (arcs : List (Arc k.Ideal)) → RowOf k all row arcs → Next k meaning all arcs (Some read)) where
        pub passing_other : Left k meaning (meaning read.0.output) x None → Passing k all Held q x d read.1
        passing_other n m h s here =
            let p = passing m h s here in
            passed_other k laws meaning all m.states s.arcs x d row p read (next p.more p.stands) n

        module _ (y : O) (left : Left k meaning (meaning read.0.output) x (Some y)) (deep : List ℕ) where
          pub passing_behind : Sought k Held read.0.target (meaning y) (d + 1) c deep None → Passing k all Held q x d read.1
          passing_behind f m h s here =
              let p = passing m h s here in
              passed_behind k laws meaning all m.states s.arcs x d row p read (next p.more p.stands) y left (f.1 m h)

          pub seek_found : (rising : (m : Machine k.Ideal) → Held m → (s : State k.Ideal) → at m.states q ≡ some s → Rising s.arcs) → (n : ℕ) → d < length b
              → Sought k Held read.0.target (meaning y) (d + 1) c deep (Some n) → (after : List ℕ) → after ≡ set deep d read.0.byte → Sought k Held q x d b after (Some n)
          seek_found rising n l f after e = (
            read.0.byte ∷ f.0,
            omega (arith, f.1),
            f.2,
            e ∙ ap (λ (z : List ℕ). set z d read.0.byte) (f.3 ∙ ap (written (d + 1) f.0) kept) ∙ written_more d read.0.byte f.0 b l,
            λ m h.
                let o = is_opened k all (at m.states q) opened (opens m h) in
                let p = passing m h o.0 o.1 in
                found_behind k laws meaning all m.states o.0.arcs x d row p read (next p.more p.stands) q o.0 o.1 refl (rising m h o.0 o.1) y left f.0 (f.4 m h),
          )
