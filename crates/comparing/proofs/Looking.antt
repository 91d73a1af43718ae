-- The newest open record among its arcs, and the same answer in other words. Assumes nothing.
use Rattle.std.proofs.Common.{◌≡◌, ℕ, ◌+◌, ◌-◌, ◌<◌, List, [], ◌∷◌, map, length, get_or, take, drop, sym, ap, ◌∙◌, arith}
use Rattle.construction.specs.Records.{Open, state_of}
use Rattle.std.specs.Prelude.{Result, Ok, Err}
use Rattle.register.specs.Answers.{Told}
use Rattle.records.specs.declared.record.State.{State}
use Rattle.records.specs.Lying.{Laid}
use Rattle.comparing.specs.Newest.{newest}

pub told_as : (n : ℕ) (E F : ℕ → Type 0) (ts : List ℕ) (h : ℕ) (r : Result ℕ ℕ) → ((q : ℕ) → q < n → E q → F q) → ((q : ℕ) → q < n → F q → E q) → Told n E ts h r → Told n F ts h r
told_as n E F ts h (Ok q) to from t = (t.0, to q t.0 t.1)
told_as n E F ts h (Err i) to from t = record { hole = t.hole; none_equal = λ q l e f. t.none_equal q l e (from q l f) }

pub newest_is : {O I : Type 0} (f : State O → Open I) (hs : List (State O)) (top : State O) → 0 < length hs → top ≡ get_or hs 0 top → newest (map f hs) ≡ state_of (f top)
newest_is f [] top h e = absurd (omega arith)
newest_is f (s ∷ hs) top h e = ap (λ x. state_of (f x)) (sym e)

-- the newest record's arcs end the list
pub laid_top : {O : Type 0} (n : ℕ) (hs : List (State O)) (top : State O) → 0 < length hs → Laid n hs → top ≡ get_or hs 0 top → top.first + top.count ≡ n
laid_top n [] top h l e = absurd (omega arith)
laid_top {O} n (s ∷ hs) top h l e = ap (λ (x : State O). x.first + x.count) e ∙ l.0

pub part_to_end : {X : Type 0} (xs ys : List X) (f k : ℕ) → xs ≡ ys → f + k ≡ length ys → take (length xs - f) (drop f xs) ≡ take k (drop f ys)
part_to_end {X} xs ys f k e w =
    let n : length xs - f ≡ k = omega (arith, ap length e) in
    ap (λ (m : ℕ). take m (drop f xs)) n ∙ ap (λ (zs : List X). take k (drop f zs)) e
