-- `add` executes nothing: the borrow is opened, and closed at the new count.
use Rattle.rustc_lexer.proofs.lemmas.tokens.TallyWalk.{[], ◌∷◌, ◌+◌, refl, proved, ftrue, flft, fsep, named, vunit, w64}
use Rattle.rustc_lexer.proofs.lemmas.tokens.TallyWalk.{‵, ◌⊛◌, ◌$◌, ◌∵◌, !, qed, done, move, keep, split, join, feq_i}
use Rattle.rustc_lexer.proofs.lemmas.tokens.TallyWalk.{fsplit3, suffices, frame, group, enter, of_opd, unit_lit}
use Rattle.rustc_lexer.proofs.lemmas.tokens.TallyWalk.{returns, alloc_all, pass_all, free_all, look_at, sets, Is}
use Rattle.rustc_lexer.proofs.lemmas.tokens.TallyWalk.{MutRef, mut_vals, mut_Tells, uint_vals, uint_Tells, uint_Makes}
use Rattle.rustc_lexer.proofs.lemmas.tokens.TallyWalk.{usize, yes, plain, nothing, opens, owned, closes, Stays, walk_of}
use Rattle.rustc_lexer.proofs.lemmas.tokens.TallyWalk.{says, stay_none, stay_ref, Goes-none, Goes-ref, ends_at}
use Rattle.rustc_lexer.specs.contracts.entry.tally.Tally.add as f
use Rattle.rustc_lexer.proofs.entry.tally.Tally.add.Statement.{statement}
use Rattle.rustc_lexer.proofs.entry.tally.Tally.add.Code as code
use Rattle.rustc_lexer.specs.contracts.entry.tally.Tally.{the_row as R}

abbrev stayed : Stays f.ended.signature.params f.ended.kept
stayed = (stay_ref (0 ∷ []) tt (plain (λ _. R)), (stay_none (λ _. usize) yes, tt))

pub add_spec : {M : Type 1} → statement M
add_spec 𝓤 𝓛 𝓜 𝓡 wired =
    let c = f.clauses 𝓛 𝓜.mem 𝓡.returns in let W = walk_of 𝓛 f.ended stayed c in
    proved 𝓛 f.ended stayed c 𝓜 𝓡
    (Goes-ref 𝓛 1 0 tt (plain (λ _. R)), (Goes-none 𝓛 1 (λ _. usize) yes (λ κs x f. refl), tt))
    f.Key.name code.function (code.unfolded 𝓤 𝓛.H 𝓜 𝓡 wired)
    (λ κs. (mut_vals, (uint_vals w64, tt))) (λ κs. (mut_Tells (named 0) κs.0 R, (uint_Tells w64, tt)))
    (λ κs qs bounds a _ are.
    let b = a.0.ref_ptr.0 in let o = a.0.ref_ptr.1 in let h = a.0.now in let n = a.1.0 in let vs = mut_vals a.0 in
    let us = uint_vals w64 n in
    let y : W.Ghost = ((κs, qs, bounds, a, (vs, (us, tt))), tt) in
    let h' = record h { count = h.count + n } in
    qed 𝓛
    (((‵ (flft κs.0 qs.0) ⊛ ‵ ftrue) ⊛ ‵ ((MutRef (named 0) κs.0 R).own_val a.0 vs) ⊛ ‵
    (fsep (usize.own_val n us) ftrue)) ∷ ‵ ftrue ∷ []) ∵
    split ! $ split ! $ move ! (2 ∷ []) $ split ! $ keep ! (0 ∷ 2 ∷ []) $
    enter ! _ _ _ _ _ $ alloc_all ! (λ l. pass_all ! refl ((tt, tt), ((tt, record { fits = are.1.0.1 }), tt)) $
    fsplit3 ! $ move ! (1 ∷ 2 ∷ 3 ∷ []) $ opens ! tt R b o (λ ws.
    closes ! tt R h' ws b o $
    sets ! (of_opd ! (unit_lit !)) refl (tt, tt) $
    -- [two parts of self; the token; self's first part]
    returns ! (look_at ! 0 refl) $ free_all ! refl $ move ! (3 ∷ []) $
    suffices ! _ (ends_at 𝓛 f.ended stayed c y vunit tt (h', (tt, tt)) (tt, (tt, tt))) $ says ! refl $
    group ! 3 $ nothing ! $ owned ! usize (Is usize) (uint_Makes 𝓛 w64) n _ (refl, are.1.0.1) $ join ! $ move !
    (1 ∷ 0 ∷ []) $ join ! $ nothing ! $ move ! (2 ∷ 0 ∷ []) $ join ! $ frame ! $ frame ! $
    feq_i ! _ (vunit ∷ []) _ refl $ done !)))
