-- What a store answers to a run of calls, from its bytes and its capacity alone.
use Rattle.std.specs.Prelude.{◌≡◌, ℕ, cond, List, [], ◌∷◌, ◌++◌, length, nat_lt, slice_index, Ok, Err, Result}
use Rattle.stores.specs.declared.Refusal.{Refusal}
use Rattle.stores.specs.declared.Refusal.TheVariants.{Missing, Full}
use Rattle.stores.specs.declared.runs.Call.{Call}
use Rattle.stores.specs.declared.runs.Call.TheVariants.{Count, Capacity, At, Append}
use Rattle.stores.specs.declared.runs.Reply.{Reply}
use Rattle.stores.specs.declared.runs.Reply.TheVariants.{Number, Byte, Done}

abbrev pub Answer : Type 0
Answer = Result Reply Refusal

abbrev pub answer : List ℕ → ℕ → Call → Answer
answer bytes room Count = Ok (Number (length bytes))
answer bytes room Capacity = Ok (Number room)
answer bytes room (At i) = cond (nat_lt i (length bytes)) (Ok (Byte (slice_index bytes i))) (Err (Missing i))
answer bytes room (Append byte) = cond (nat_lt (length bytes) room) (Ok Done) (Err Full)

-- the bytes after a call; the capacity stays
abbrev pub after : List ℕ → ℕ → Call → List ℕ
after bytes room Count = bytes
after bytes room Capacity = bytes
after bytes room (At i) = bytes
after bytes room (Append byte) = cond (nat_lt (length bytes) room) (bytes ++ byte ∷ []) bytes

unfoldable pub answers : List ℕ → ℕ → List Call → List Answer
answers bytes room [] = []
answers bytes room (call ∷ calls) = answer bytes room call ∷ answers (after bytes room call) room calls

unfoldable pub after_all : List ℕ → ℕ → List Call → List ℕ
after_all bytes room [] = bytes
after_all bytes room (call ∷ calls) = after_all (after bytes room call) room calls

-- two stores with the same bytes and the same capacity
abbrev pub Alike : List ℕ → ℕ → List ℕ → ℕ → Type 0
Alike bytes room bytes' room' = (bytes ≡ bytes') × (room ≡ room')
