-- `new` creates a value of zero bytes, whose count is 0.
use Rattle.rustc_lexer.proofs.lemmas.tokens.TallyWalk.{[], ◌∷◌, refl, proved, Fml, ftrue, Val, vstruct, vcons, vnil, ‵}
use Rattle.rustc_lexer.proofs.lemmas.tokens.TallyWalk.{◌⊛◌, ◌$◌, ◌∵◌, !, qed, done, keep, use0, suffices, enter}
use Rattle.rustc_lexer.proofs.lemmas.tokens.TallyWalk.{no_more, and_then, returns, alloc_all, pass_all, free_all}
use Rattle.rustc_lexer.proofs.lemmas.tokens.TallyWalk.{look_at, get, sets, agg, makes_shadow, type_at, nothing, Stays}
use Rattle.rustc_lexer.proofs.lemmas.tokens.TallyWalk.{says, ends_at}
use Rattle.rustc_lexer.specs.contracts.entry.tally.Tally.new as f
use Rattle.rustc_lexer.proofs.entry.tally.Tally.new.Statement.{statement}
use Rattle.rustc_lexer.proofs.entry.tally.Tally.new.Code as code
use denote.Triple.Entry.{Res}

abbrev stayed : Stays f.ended.signature.params f.ended.kept
stayed = tt

pub new_spec : {M : Type 1} → statement M
new_spec 𝓤 𝓛 𝓜 𝓡 wired =
    let c = f.clauses 𝓛 𝓜.mem 𝓡.returns in
    proved 𝓛 f.ended stayed c 𝓜 𝓡 tt f.Key.name code.function (code.unfolded 𝓤 𝓛.H 𝓜 𝓡 wired)
    (λ κs. tt) (λ κs. tt) (λ κs qs bounds a _ are.
    let v : Val = vstruct (vcons (vstruct vnil) vnil) in
    let r : Res f.ended.signature κs = record { marker = record {}; count = 0 } in
    let O : Fml = (type_at f.ended.signature.result κs).own_val r (v ∷ []) in
    qed 𝓛 ((‵ ftrue ⊛ ‵ ftrue) ∷ ‵ ftrue ∷ []) ∵ keep ! [] $
    enter ! _ _ _ _ _ $ alloc_all ! (λ l. pass_all ! refl tt $
    sets ! (agg ! (no_more !)) refl (tt, tt) $ sets ! (agg ! (and_then ! (get ! refl) (no_more !))) refl
    (tt, (tt, tt)) $
    returns ! (look_at ! 0 refl) $ free_all ! refl $
    use0 𝓛 (‵ O) (makes_shadow 𝓛 O ((λ vss. (tt, ((λ uss. (tt, tt)), tt))), tt)
    (((vstruct vnil ∷ [], tt), (refl, ((tt, (refl, tt)), tt))), tt)) $
    suffices ! _ (ends_at 𝓛 f.ended stayed c ((κs, qs, bounds, a, tt), tt) v r tt tt) $ says ! refl $
    nothing ! $ nothing ! $ done !))
