-- A run of calls, one more call at its end.
use Rattle.std.proofs.Common.{◌≡◌, ℕ, ◌+◌, ◌<◌, List, [], ◌∷◌, ◌++◌, length, get_or, take, sym, refl, ap, ◌∙◌}
use Rattle.std.proofs.lemmas.List.{take_more}
use Rattle.stores.specs.declared.runs.Call.{Call}
use Rattle.stores.specs.declared.runs.Call.TheVariants.{Count}
use Rattle.stores.specs.Runs.{Answer, answer, after, answers, after_all, Alike}

pub answers_more : (bytes : List ℕ) (room : ℕ) (calls : List Call) (call : Call) →
    answers bytes room (calls ++ call ∷ []) ≡ answers bytes room calls ++ answer (after_all bytes room calls) room call ∷ []
unfolding answers after_all
answers_more bytes room [] call = refl
answers_more bytes room (c ∷ calls) call = ap (λ (z : List Answer). answer bytes room c ∷ z) (answers_more (after bytes room c) room calls call)

pub after_all_more : (bytes : List ℕ) (room : ℕ) (calls : List Call) (call : Call) →
    after_all bytes room (calls ++ call ∷ []) ≡ after (after_all bytes room calls) room call
unfolding after_all
after_all_more bytes room [] call = refl
after_all_more bytes room (c ∷ calls) call = after_all_more (after bytes room c) room calls call

-- call i of a run was answered so
pub answered : (bytes bytes' : List ℕ) (room room' : ℕ) (calls : List Call) (i : ℕ) (reply : Answer) → i < length calls →
    bytes' ≡ after_all bytes room (take i calls) → room' ≡ room → reply ≡ answer bytes' room' (get_or calls i Count) →
    answers bytes room (take (i + 1) calls) ≡ answers bytes room (take i calls) ++ reply ∷ []
answered bytes bytes' room room' calls i reply l b r e =
    ap (answers bytes room) (take_more calls i Count l) ∙ answers_more bytes room (take i calls) (get_or calls i Count)
    ∙ ap (λ (z : Answer). answers bytes room (take i calls) ++ z ∷ []) (sym (e ∙ ap (λ (z : List ℕ). answer z room' (get_or calls i Count)) b ∙ ap (λ (z : ℕ). answer (after_all bytes room (take i calls)) z (get_or calls i Count)) r))

-- and left these bytes
pub left : (bytes bytes' bytes'' : List ℕ) (room room' : ℕ) (calls : List Call) (i : ℕ) → i < length calls →
    bytes' ≡ after_all bytes room (take i calls) → room' ≡ room → bytes'' ≡ after bytes' room' (get_or calls i Count) →
    bytes'' ≡ after_all bytes room (take (i + 1) calls)
left bytes bytes' bytes'' room room' calls i l b r e =
    e ∙ ap (λ (z : List ℕ). after z room' (get_or calls i Count)) b ∙ ap (λ (z : ℕ). after (after_all bytes room (take i calls)) z (get_or calls i Count)) r
    ∙ sym (ap (after_all bytes room) (take_more calls i Count l) ∙ after_all_more bytes room (take i calls) (get_or calls i Count))

-- stores that were alike give the same answer after the same calls
pub alike_answer : (bytes bytes' : List ℕ) (room room' : ℕ) (now now' : List ℕ) (held held' : ℕ) (calls : List Call) (call : Call) (given reply : Answer) →
    Alike bytes room bytes' room' → now ≡ after_all bytes room calls → held ≡ room → now' ≡ after_all bytes' room' calls → held' ≡ room' →
    given ≡ answer now held call → reply ≡ answer now' held' call → given ≡ reply
alike_answer bytes bytes' room room' now now' held held' calls call given reply (a, e) p q p' q' s s' =
    let n : now ≡ now' = p ∙ ap (λ (z : List ℕ). after_all z room calls) a ∙ ap (λ (z : ℕ). after_all bytes' z calls) e ∙ sym p' in
    let h : held ≡ held' = q ∙ e ∙ sym q' in
    s ∙ ap (λ (z : List ℕ). answer z held call) n ∙ ap (λ (z : ℕ). answer now' z call) h ∙ sym s'

-- the same answers, and one more that is the same
pub same_more : (all all' one other : List Answer) (given reply : Answer) → all ≡ one ++ given ∷ [] → all' ≡ other ++ reply ∷ [] → one ≡ other → given ≡ reply → all ≡ all'
same_more all all' one other given reply p p' s e =
    p ∙ ap (λ (z : List Answer). z ++ given ∷ []) s ∙ ap (λ (z : Answer). other ++ z ∷ []) e ∙ sym p'
