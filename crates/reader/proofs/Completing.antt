-- The text of a well-formed chart is accepted, and gives that chart.
use Rattle.std.proofs.Common.{◌≡◌, ℕ, suc, ◌≤◌, true, ltb, List, [], ◌∷◌, ◌++◌, length, Ok, Err, codes, sym, refl, ap, ◌∙◌, subst, arith}
use Rattle.std.specs.List.{flat_map, AllByRecursion as All}
use Rattle.std.proofs.lemmas.List.{append_assoc}
use Rattle.std.proofs.lemmas.Bool.{cond-true, cond-false, le-ltb, lt-ltb}
use Rattle.chart.specs.Words.{Text, is_name}
use Rattle.chart.specs.Content.{Content, NamesApart, WellFormed}
use Rattle.chart.specs.Drafting.{begun, all_received, times_received}
use Rattle.chart.proofs.Judging.{all_below_lem}
use Rattle.reader.specs.Lexemes.{place_of, lexeme, left}
use Rattle.reader.specs.Meaning.{Sign, written, semicolon_sign, further_names, line_of, Spells, TextOf}
use Rattle.reader.specs.Reading.{then, on_end, ending, heading_from, body_from, chart_from, reading}
use Rattle.reader.specs.declared.refusals.Refusal.TheVariants.{TextTooLong, NotReceived}
use Rattle.reader.proofs.Lexing.{spells_read, end_read}
use Rattle.reader.proofs.Taking.{spells_takes}
use Rattle.reader.proofs.Doing.{then_does, word_does, keyword_does, semicolon_taken, name_does, steps_do}
use Rattle.reader.proofs.Building.{list_built, lines_built}
use Rattle.reader.proofs.Moving.{drawing, Many}
use Rattle.reader.proofs.Sounding.{frame}

ending_does : (n : ℕ) (bs : Text) → Spells (semicolon_sign ∷ []) bs → ending n bs ≡ Ok tt
ending_does n bs h =
    let a = spells_takes n bs (semicolon_sign ∷ []) [] h in
    let e = end_read n a.0 a.2 in
    then_does (λ bs₁. on_end (lexeme n bs₁) (Ok tt)) (semicolon_taken n bs a.0 a.1) ∙ ap (λ l. on_end l (Ok tt)) e.1

module _ (c : Content) (wf : WellFormed c) (first : Text) (xs : List Text) (listed : c.instances ≡ first ∷ xs) where
  received : all_received c ≡ true
  received = all_below_lem (λ m. ltb 0 (times_received c m)) (length c.messages) (λ m l. lt-ltb 0 (times_received c m) (omega (arith, wf.received_once m l)))

  body_does : (n : ℕ) (bs : Text) → Spells (further_names xs ++ semicolon_sign ∷ (flat_map (line_of c) c.events ++ written (codes "endmsc") ∷ semicolon_sign ∷ [])) bs → body_from n (begun c.title first) bs ≡ Ok c
  body_does n bs h =
      let after_list : List Sign = flat_map (line_of c) c.events ++ written (codes "endmsc") ∷ semicolon_sign ∷ [] in
      let a = spells_takes n bs (further_names xs ++ semicolon_sign ∷ []) after_list (subst (λ (ts : List Sign). Spells ts bs) (sym (append_assoc (further_names xs) (semicolon_sign ∷ []) after_list)) h) in
      let b = spells_takes n a.0 (flat_map (line_of c) c.events ++ written (codes "endmsc") ∷ []) (semicolon_sign ∷ [])
      (subst (λ (ts : List Sign). Spells ts a.0) (sym (append_assoc (flat_map (line_of c) c.events) (written (codes "endmsc") ∷ []) (semicolon_sign ∷ []))) a.2) in
      let named = subst (All (λ t. is_name t ≡ true)) listed wf.instance_names in
      let all_listed = list_built c.title (first ∷ []) xs (subst NamesApart listed wf.instances_apart) named.1 (omega (arith, ap length listed, wf.few_instances)) in
      let i = steps_do (suc (length bs)) n bs a.0 all_listed a.1 (omega arith) in
      let all-lined = subst (λ (l : List Text). Many drawing (record { title = c.title; instances = l; messages = []; events = [] }) (flat_map (line_of c) c.events) c) listed (lines_built c wf [] c.events 0 refl wf.is_numbered (omega (arith, wf.all_sent))) in
      let l = steps_do (suc (length a.0)) n a.0 b.0 all-lined b.1 (omega arith) in
      then_does _ i.1 ∙ then_does _ l.1
      ∙ cond-true (all_received c) (then (ending n b.0) (λ _. Ok c)) (Err (NotReceived l.0)) received
      ∙ then_does (λ _. Ok c) (ending_does n b.0 b.2)

  pub chart_does : (bs : Text) → length bs ≤ 16384 → Spells (frame c.title (first ∷ xs) (flat_map (line_of c) c.events)) bs → reading bs ≡ Ok c
  chart_does bs short h =
      let n : ℕ = length bs in
      let rest : List Sign = further_names xs ++ semicolon_sign ∷ (flat_map (line_of c) c.events ++ written (codes "endmsc") ∷ semicolon_sign ∷ []) in
      let a = spells_takes n bs (written (codes "msc") ∷ []) (written c.title ∷ semicolon_sign ∷ written (codes "inst") ∷ written first ∷ rest) h in
      let b = spells_read n a.0 (written c.title) (semicolon_sign ∷ written (codes "inst") ∷ written first ∷ rest) a.2 in
      let d = spells_takes n (left a.0) (semicolon_sign ∷ []) (written (codes "inst") ∷ written first ∷ rest) b.1 in
      let e = spells_takes n d.0 (written (codes "inst") ∷ []) (written first ∷ rest) d.2 in
      let f = spells_read n e.0 (written first) rest e.2 in
      let heading : heading_from n bs ≡ Ok (c.title, first, left e.0) =
      then_does _ (keyword_does (codes "msc") n bs a.0 a.1)
      ∙ then_does _ (word_does (lexeme n a.0) c.title b.0) ∙ then_does _ (name_does c.title (place_of (lexeme n a.0)) wf.titled)
      ∙ then_does _ (semicolon_taken n (left a.0) d.0 d.1)
      ∙ then_does _ (keyword_does (codes "inst") n d.0 e.0 e.1)
      ∙ then_does _ (word_does (lexeme n e.0) first f.0) ∙ then_does (λ u. Ok (c.title, u, left e.0)) (name_does first (place_of (lexeme n e.0)) (subst (All (λ t. is_name t ≡ true)) listed wf.instance_names).0) in
      cond-false (ltb 16384 n) (Err TextTooLong) (chart_from n bs) (le-ltb 16384 n short)
      ∙ then_does (λ h. body_from n (begun h.0 h.1) h.2) heading ∙ body_does n (left e.0) f.1

-- a well-formed chart has a first instance
pub reading_complete : (bs : Text) (c : Content) → TextOf c bs → reading bs ≡ Ok c
reading_complete bs c h = on c.instances refl
  where
    on : (is : List Text) → c.instances ≡ is → reading bs ≡ Ok c
    on [] e = absurd (omega (arith, h.well_formed.some_instance, ap length e))
    on (first ∷ xs) e = chart_does c h.well_formed first xs e bs h.fits (subst (λ (l : List Text). Spells (frame c.title l (flat_map (line_of c) c.events)) bs) e h.spelled)
