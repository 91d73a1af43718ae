-- Load's steps put together. Assumes nothing.
use Rattle.std.proofs.Common.{◌≡◌, ℕ, ◌<◌, Bool, List, [], Ok, Err, sym, refl, ap, ◌∙◌}
use Rattle.outputs.specs.Kinds.{Kind}
use Rattle.machines.specs.Machines.{State, Machine}
use Rattle.images.specs.Steps.{Step, reads, refuses, Refusal, Reader, ◌>>=◌, ◌>>◌}
use Rattle.images.specs.Loads.{Head, head, entries, records, whole}
use Rattle.images.proofs.Standing.{then_reads, then_none}
use Rattle.loading.specs.declared.head.Head as Code
use Rattle.loading.specs.declared.refusal.LoadRefusal.{LoadRefusal}
use Rattle.loading.specs.Refusals.{reported}
use Rattle.loading.specs.Answers.{Answers, Passes}
use Rattle.loading.specs.Heads.{head_of}
use Rattle.loading.specs.Wholes.{WholeRead}
use Rattle.loading.specs.Working.{RecordsRead}
use Rattle.loading.specs.Ends.{ending}
use Rattle.loading.proofs.Walking.{has_read, is_read, has_passed, has_stopped}
use Rattle.loading.proofs.EndsAlike.{giving, machine_of, behind_records, ends_alike}

module _ (k : Kind) (all : List Bool) (working : ℕ) where
  abbrev behind_index : Head k.Ideal → Reader (Machine k.Ideal)
  behind_index front = do
    states ← records k all front.index 0 front.states []
    behind_records k all front states

  abbrev behind_head : Head k.Ideal → Reader (Machine k.Ideal)
  behind_head front = do
    entries k all front.states
    behind_index front

  pub head_refuses : (d : Refusal) → head k all working 0 ≡ refuses d → whole k all working 0 ≡ refuses d
  head_refuses d e = then_none (head k all working) behind_head 0 d e

  module _ (front : Head k.Ideal) (p : ℕ) (h : head k all working 0 ≡ reads front p) where
    after_head : whole k all working 0 ≡ behind_head front p
    after_head = then_reads (head k all working) behind_head 0 p front h

    abbrev on_index : Step (Unit {0}) → Step (Machine k.Ideal)
    on_index s = elim s [ reads u q ↦ behind_index front q | refuses e ↦ refuses e ]

    pub entries_refuse : (d : Refusal) → entries k all front.states p ≡ refuses d → whole k all working 0 ≡ refuses d
    entries_refuse d e = after_head ∙ ap on_index e

    module _ (u : Unit {0}) (q : ℕ) (i : entries k all front.states p ≡ reads u q) where
      after_index : whole k all working 0 ≡ behind_index front q
      after_index = after_head ∙ ap on_index i

      pub records_refuse : (d : Refusal) → records k all front.index 0 front.states [] q ≡ refuses d → whole k all working 0 ≡ refuses d
      records_refuse d e = after_index ∙ then_none (records k all front.index 0 front.states []) (behind_records k all front) q d e

      module _ (ss : List (State k.Ideal)) (o count : ℕ) (w : List ℕ) (r : records k all front.index 0 front.states [] q ≡ reads ss o) (l : 0 < front.states) (f : RecordsRead front.states w count ss) where
        after_records : whole k all working 0 ≡ giving (machine_of k all front ss) (ending k all front count w o)
        after_records = after_index ∙ then_reads (records k all front.index 0 front.states []) (behind_records k all front) q o ss r ∙ ends_alike k all front w count ss l f o

        pub ending_refuses : (d : Refusal) → ending k all front count w o ≡ refuses d → whole k all working 0 ≡ refuses d
        ending_refuses d e = after_records ∙ ap (giving (machine_of k all front ss)) e

        pub whole_reads : (v : Unit {0}) (t : ℕ) → ending k all front count w o ≡ reads v t → whole k all working 0 ≡ reads (machine_of k all front ss) t
        whole_reads v t e = after_records ∙ ap (giving (machine_of k all front ss)) e

-- the same by what code answered
module _ {O : Type 0} (k : Kind) (meaning : O → k.Ideal) (all : List Bool) (working : ℕ) (front : Code.Head O) (index q o count : ℕ) (w : List ℕ) (same : front.index ≡ index) (l : 0 < front.states)
    (hd : Answers {X = Head k.Ideal} {Y = Code.Head O} (λ h x. head_of meaning h ≡ x) (head k all working 0) (Ok (front, index))) (en : Passes (entries k all front.states index) (Ok q))
    (re : Answers (RecordsRead front.states w) (records k all front.index 0 front.states [] q) (Ok (count, o))) where
  abbrev front_of : Head k.Ideal
  front_of = head_of meaning front

  head_read : head k all working 0 ≡ reads front_of index
  head_read =
      let f = has_read {X = Head k.Ideal} {Y = Code.Head O} (λ h x. head_of meaning h ≡ x) (head k all working 0) (front, index) hd in
      f.1.0 ∙ ap {A = Head k.Ideal} {B = Step (Head k.Ideal)} (λ x. reads x index) (sym f.1.1)

  index_passed : (u : Unit {0}) × (entries k all front.states index ≡ reads u q)
  index_passed = has_passed (entries k all front.states index) q en

  records_read : (ss : List (State k.Ideal)) × ((records k all front.index 0 front.states [] q ≡ reads ss o) × RecordsRead front.states w count ss)
  records_read = has_read {X = List (State k.Ideal)} {Y = ℕ} (RecordsRead front.states w) (records k all front.index 0 front.states [] q) (count, o) re

  -- the end is refused
  pub stopped_at_end : (e : LoadRefusal) → Passes (ending k all front_of count w o) (Err e) → whole k all working 0 ≡ refuses (reported e)
  stopped_at_end e h =
      ending_refuses k all working front_of index head_read index_passed.0 q index_passed.1 records_read.0 o count w records_read.1.0 l records_read.1.1 (reported e)
      (has_stopped (ending k all front_of count w o) e h)

  -- and the whole image is read
  pub whole_is_read : (t : ℕ) → Passes (ending k all front_of count w o) (Ok t) → Answers (WholeRead k meaning all working) (whole k all working 0) (Ok (front, t))
  whole_is_read t h =
      let f = has_passed (ending k all front_of count w o) t h in
      is_read (WholeRead k meaning all working) (whole k all working 0) (machine_of k all front_of records_read.0) front t
      (whole_reads k all working front_of index head_read index_passed.0 q index_passed.1 records_read.0 o count w records_read.1.0 l records_read.1.1 f.0 t f.1)
      (record { front_read = head_read ∙ ap {A = ℕ} {B = Step (Head k.Ideal)} (λ p. reads front_of p) (sym same); many = records_read.1.1.many; start = refl; start_output = refl })
