-- Lemmas about bytes that are pushed, one after another.
use Rattle.std.proofs.Common.{◌≡◌, ℕ, List, [], ◌++◌, refl, sym, ◌∙◌, append_assoc, append-nil, Option}
use Rattle.std.proofs.Common.{Result, Ok, Err, arith}
use Rattle.std.proofs.lemmas.Grind.{common_steps}
use Rattle.std.specs.{Prelude.{OnOk}, Result.{IsErrAnd}, Io.KnownBytes.{Appends}}
use Rattle.lexdump_run.proofs.KnownLemmas.{appends-none, appends-more, front_first, front_more}
use Rattle.lexdump_run.specs.{Known.{Went}, declared.fault.Fault.{Fault}}
use Rattle.lexdump_run.specs.{declared.output.BlockWriter.{BlockWriter}, Pushed.{held, Pushes}}

-- If a block holds no bytes and further bytes are written directly, it still holds none.
pub went_past : (old new : Option (List ℕ)) (none bytes : List ℕ) (result : Result (Unit {0}) Fault) → none ≡ []
    → OnOk result (Appends old new bytes) → OnOk result (Went old new (none ++ bytes) none)
went_past old new none bytes (Ok done) e a =
    record { front = bytes; whole = grind (arith, common_steps, append-nil); grew = a }
went_past old new none bytes (Err fault) e a = tt

-- Holds if all bytes before `rest` were pushed since `start`.
pub record Pushing {W : Type 0} (contents : W → Option (List ℕ)) (start now : BlockWriter W)
    (all rest : List ℕ) : Type 0 where
  pub done : List ℕ
  pub whole : all ≡ done ++ rest
  pub pushed : Pushes contents start now done (Ok tt)

went_both : (old mid new : Option (List ℕ)) (xs middle last ys : List ℕ) → Went old mid xs middle
    → Went mid new (middle ++ ys) last → Went old new (xs ++ ys) last
went_both old mid new xs middle last ys p q = record {
  front = p.front ++ q.front;
  whole = grind (arith, common_steps, append_assoc, p.whole, q.whole);
  grew = appends-more old mid new p.front q.front p.grew q.grew;
}

module _ {W : Type 0} {contents : W → Option (List ℕ)} where
  -- Two pushes in a row push both texts.
  pub pushes_both : {old mid new : BlockWriter W} {one two bytes : List ℕ} (result : Result (Unit {0}) Fault)
      → bytes ≡ one ++ two → Pushes contents old mid one (Ok tt) → Pushes contents mid new two result
      → Pushes contents old new bytes result
  pushes_both {old} {mid} {new} {one} {two} (Ok done) e p q = record {
    same_output = q.same_output ∙ p.same_output;
    failed = grind (arith, common_steps, p.failed, q.failed);
    only = tt;
    ok = rw (e, ← append_assoc (held old) one two) (went_both _ _ _ _ _ _ _ p.ok q.ok);
    err = tt;
  }
  pushes_both {old} {mid} {new} {one} {two} (Err fault) e p q = record {
    same_output = q.same_output ∙ p.same_output;
    failed = grind (arith, common_steps, p.failed, q.failed);
    only = q.only;
    ok = tt;
    err = front_more _ _ _ p.ok.front (held mid ++ two) _ (grind (arith, common_steps, append_assoc, p.ok.whole, e))
        p.ok.grew q.err;
  }

  -- A push that fails early is a failed push of all the bytes.
  pub pushes_first : {old new : BlockWriter W} {one bytes : List ℕ} {fault : Fault} (two : List ℕ)
      (result : Result (Unit {0}) Fault) → bytes ≡ one ++ two → Pushes contents old new one (Err fault)
      → IsErrAnd result (λ y. y ≡ fault) → Pushes contents old new bytes result
  pushes_first two (Ok done) e p is = elim is [ ]
  pushes_first {old} {one = one} two (Err _) e p is = record {
    same_output = p.same_output;
    failed = p.failed;
    only = is ∙ p.only;
    ok = tt;
    err = front_first _ _ (held old ++ one) two _ (cc (append_assoc (held old) one two))
        p.err;
  }

  -- Pushing no bytes changes nothing.
  pushes_none : (old : BlockWriter W) → Pushes contents old old [] (Ok tt)
  pushes_none old =
      record {
        same_output = refl;
        failed = grind (arith, common_steps);
        only = tt;
        ok = record { front = []; whole = append-nil (held old); grew = appends-none _ };
        err = tt;
      }

  -- At the start, nothing has been pushed.
  pub pushing_none : (start : BlockWriter W) (all rest : List ℕ) → rest ≡ all → Pushing contents start start all rest
  pushing_none start all rest e = record { done = []; whole = sym e; pushed = pushes_none start }

  parted : {start mid : BlockWriter W} {all to_come : List ℕ} (first rest : List ℕ)
      (at : Pushing contents start mid all to_come) → to_come ≡ first ++ rest → all ≡ (at.done ++ first) ++ rest
  parted first rest at e = cc (append_assoc at.done first rest)

  -- If the next bytes are pushed, the rest after them remains.
  pub pushing_first : {start mid new : BlockWriter W} {all to_come first rest : List ℕ}
      → Pushing contents start mid all to_come → to_come ≡ first ++ rest → Pushes contents mid new first (Ok tt)
      → Pushing contents start new all rest
  pushing_first {first = first} {rest} at e p =
      record { done = at.done ++ first; whole = parted first rest at e; pushed = pushes_both _ refl at.pushed p }

  -- If pushing the next bytes fails, the whole push fails.
  pub pushing_stopped : {start mid new : BlockWriter W} {all to_come first : List ℕ} {fault : Fault} (rest : List ℕ)
      (result : Result (Unit {0}) Fault)
      → Pushing contents start mid all to_come → to_come ≡ first ++ rest → Pushes contents mid new first (Err fault)
      → IsErrAnd result (λ y. y ≡ fault) → Pushes contents start new all result
  pushing_stopped {first = first} rest result at e p is =
      pushes_first rest result (parted first rest at e) (pushes_both _ refl at.pushed p) is

  -- If nothing remains, all bytes were pushed.
  pub pushing_all : (start new : BlockWriter W) (all rest : List ℕ) → Pushing contents start new all rest → rest ≡ []
      → Pushes contents start new all (Ok tt)
  pushing_all start new all rest at e =
      rw (at.whole, e, append-nil at.done) at.pushed

pub ruleset pushes = (pushes_both, pushes_first, common_steps)

pub ruleset pushing = (pushing_none, pushing_all, common_steps)

pub ruleset push_lemmas = (append-nil, common_steps)
