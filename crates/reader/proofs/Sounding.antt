-- What is accepted is the text of a well-formed chart.
use Rattle.std.proofs.Common.{◌≡◌, ℕ, suc, true, ltb, List, [], ◌∷◌, ◌++◌, length, Ok, codes, sym, refl, ap, ◌∙◌, subst}
use Rattle.std.specs.List.{flat_map}
use Rattle.std.proofs.lemmas.List.{append_assoc}
use Rattle.std.proofs.lemmas.Bool.{ltb-false}
use Rattle.chart.specs.Words.{Text, is_name}
use Rattle.chart.specs.Content.{Content}
use Rattle.chart.specs.Drafting.{begun, all_received}
use Rattle.reader.specs.Lexemes.{lexeme, left}
use Rattle.reader.specs.Meaning.{Sign, written, semicolon_sign, further_names, names, line_of, Spells, TextOf}
use Rattle.reader.specs.Reading.{name_at, keyword_from, semicolon_from, instance_step, line_step, part_from, ending, heading_from, body_from, chart_from, reading}
use Rattle.reader.proofs.Inversion.{then_ok, fails, passes, same_ok}
use Rattle.reader.proofs.Lexing.{Shows, read_end}
use Rattle.reader.proofs.Taking.{Takes, takes_then, takes_spells}
use Rattle.reader.proofs.Accepting.{word_ok, end_ok, keyword_ok, semicolon_read, name_ok}
use Rattle.reader.proofs.Moving.{listing, drawing, steps_took}
use Rattle.reader.proofs.Staging.{Stage, begun_stage, many_stage, all_formed, instances_read, lines_read}

-- the tokens of a chart, by its title, its instances and the tokens of its lines
abbrev pub frame : Text → List Text → List Sign → List Sign
frame title instances lines =
    written (codes "msc") ∷ written title ∷ semicolon_sign ∷ written (codes "inst")
    ∷ (names instances ++ semicolon_sign ∷ (lines ++ written (codes "endmsc") ∷ semicolon_sign ∷ []))

ending_spells : (n : ℕ) (bs : Text) (u : Unit {0}) → ending n bs ≡ Ok u → Spells (semicolon_sign ∷ []) bs
ending_spells n bs u h =
    let a = then_ok (semicolon_from n bs) _ u h in
    let e = end_ok u (lexeme n a.0) (Ok tt) a.2 in
    takes_spells n bs (semicolon_sign ∷ []) [] a.0 (semicolon_read n bs a.0 a.1) (read_end n a.0 e.0 e.1)

-- past the first name of the list: the further names, the lines, and the end
body_sound : (n : ℕ) (title first bs : Text) (d : Content) → body_from n (begun title first) bs ≡ Ok d → Stage (begun title first)
    → (xs : List Text) × (Stage d) × (all_received d ≡ true) × (d.title ≡ title) × (d.instances ≡ first ∷ xs)
    × Spells (further_names xs ++ semicolon_sign ∷ (flat_map (line_of d) d.events ++ written (codes "endmsc") ∷ semicolon_sign ∷ [])) bs
body_sound n title first bs d h stage =
    let pi = then_ok (part_from instance_step n (begun title first) bs) _ d h in
    let pl = then_ok (part_from line_step n pi.0.0 pi.0.2) _ d pi.2 in
    let ar = passes (all_received pl.0.0) _ _ d pl.2 in
    let en = then_ok (ending n pl.0.2) _ d ar.1 in
    let same : pl.0.0 ≡ d = same_ok pl.0.0 d en.2 in
    let ti = steps_took listing (suc (length bs)) n (begun title first) bs pi.0 pi.1 in
    let tl = steps_took drawing (suc (length pi.0.2)) n pi.0.0 pi.0.2 pl.0 pl.1 in
    let listed = instances_read ti.2 in
    let lined = lines_read tl.2 in
    let events : flat_map (line_of pl.0.0) pl.0.0.events ≡ tl.0 = ap (flat_map (line_of pl.0.0)) (lined.more_events ∙ ap (λ x. x.events ++ lined.happenings) listed.1) ∙ sym lined.spelled in
    let lines_spelled : Spells (tl.0 ++ written (codes "endmsc") ∷ semicolon_sign ∷ []) pi.0.2 =
    subst (λ (ts : List Sign). Spells ts pi.0.2) (append_assoc tl.0 (written (codes "endmsc") ∷ []) (semicolon_sign ∷ []))
    (takes_spells n pi.0.2 (tl.0 ++ written (codes "endmsc") ∷ []) (semicolon_sign ∷ []) pl.0.2 tl.1 (ending_spells n pl.0.2 en.0 en.1)) in
    let all_spelled : Spells (ti.0 ++ semicolon_sign ∷ (tl.0 ++ written (codes "endmsc") ∷ semicolon_sign ∷ [])) bs =
    subst (λ (ts : List Sign). Spells ts bs) (append_assoc ti.0 (semicolon_sign ∷ []) (tl.0 ++ written (codes "endmsc") ∷ semicolon_sign ∷ []))
    (takes_spells n bs (ti.0 ++ semicolon_sign ∷ []) (tl.0 ++ written (codes "endmsc") ∷ semicolon_sign ∷ []) pi.0.2 ti.1 lines_spelled) in
    subst (λ (e : Content). (xs : List Text) × (Stage e) × (all_received e ≡ true) × (e.title ≡ title) × (e.instances ≡ first ∷ xs)
    × Spells (further_names xs ++ semicolon_sign ∷ (flat_map (line_of e) e.events ++ written (codes "endmsc") ∷ semicolon_sign ∷ [])) bs) same (
      listed.0,
      many_stage tl.2 (many_stage ti.2 stage),
      ar.0,
      lined.same_title ∙ ap (λ x. x.title) listed.1,
      lined.same_instances ∙ ap (λ x. x.instances) listed.1,
      subst (λ (ts : List Sign). Spells (further_names listed.0 ++ semicolon_sign ∷ (ts ++ written (codes "endmsc") ∷ semicolon_sign ∷ [])) bs) (sym events)
          (subst (λ (ts : List Sign). Spells (ts ++ semicolon_sign ∷ (tl.0 ++ written (codes "endmsc") ∷ semicolon_sign ∷ [])) bs) listed.2 all_spelled),
    )

-- `msc` t₁ `;` `inst` t₂, and what follows
heading_spells : (n : ℕ) (bs b₁ b₂ b₃ t₁ t₂ : Text) (us : List Sign) → Takes n bs (written (codes "msc") ∷ []) b₁ → Shows (written t₁) (lexeme n b₁) → Takes n (left b₁) (semicolon_sign ∷ []) b₂ → Takes n b₂ (written (codes "inst") ∷ []) b₃ → Shows (written t₂) (lexeme n b₃) → Spells us (left b₃)
    → Spells (written (codes "msc") ∷ written t₁ ∷ semicolon_sign ∷ written (codes "inst") ∷ written t₂ ∷ us) bs
heading_spells n bs b₁ b₂ b₃ t₁ t₂ us msc title mark' inst first rest =
    let from-inst = takes_then n b₂ (written (codes "inst") ∷ []) (written t₂ ∷ []) b₃ (left b₃) inst (first, refl) in
    let from-mark = takes_then n (left b₁) (semicolon_sign ∷ []) (written (codes "inst") ∷ written t₂ ∷ []) b₂ (left b₃) mark' from-inst in
    let all = takes_then n bs (written (codes "msc") ∷ []) (written t₁ ∷ semicolon_sign ∷ written (codes "inst") ∷ written t₂ ∷ []) b₁ (left b₃) msc (title, from-mark) in
    takes_spells n bs (written (codes "msc") ∷ written t₁ ∷ semicolon_sign ∷ written (codes "inst") ∷ written t₂ ∷ []) us (left b₃) all rest

pub reading_sound : (bs : Text) (c : Content) → reading bs ≡ Ok c → TextOf c bs
reading_sound bs c h =
    let n : ℕ = length bs in
    let a = fails (ltb 16384 n) _ (chart_from n bs) c h in
    let hd = then_ok (heading_from n bs) _ c a.1 in
    let k₁ = then_ok (keyword_from (codes "msc") n bs) _ hd.0 hd.1 in
    let w₁ = word_ok hd.0 (lexeme n k₁.0) _ k₁.2 in
    let n₁ = then_ok (name_at w₁.0 w₁.1) _ hd.0 w₁.3 in
    let s₁ = then_ok (semicolon_from n (left k₁.0)) _ hd.0 n₁.2 in
    let k₂ = then_ok (keyword_from (codes "inst") n s₁.0) _ hd.0 s₁.2 in
    let w₂ = word_ok hd.0 (lexeme n k₂.0) _ k₂.2 in
    let n₂ = then_ok (name_at w₂.0 w₂.1) _ hd.0 w₂.3 in
    let rest : body_from n (begun n₁.0 n₂.0) (left k₂.0) ≡ Ok c = ap (λ x. body_from n (begun x.0 x.1) x.2) (same_ok _ hd.0 n₂.2) ∙ hd.2 in
    let title = name_ok w₁.0 w₁.1 n₁.0 n₁.1 in
    let first = name_ok w₂.0 w₂.1 n₂.0 n₂.1 in
    let b = body_sound n n₁.0 n₂.0 (left k₂.0) c rest (begun_stage n₁.0 n₂.0 (subst (λ (t : Text). is_name t ≡ true) title.0 title.1) (subst (λ (t : Text). is_name t ≡ true) first.0 first.1)) in
    let lines : List Sign = flat_map (line_of c) c.events in
    let whole = heading_spells n bs k₁.0 s₁.0 k₂.0 w₁.0 w₂.0 (further_names b.0 ++ semicolon_sign ∷ (lines ++ written (codes "endmsc") ∷ semicolon_sign ∷ []))
    (keyword_ok (codes "msc") n bs k₁.0 k₁.1) w₁.2 (semicolon_read n (left k₁.0) s₁.0 s₁.1) (keyword_ok (codes "inst") n s₁.0 k₂.0 k₂.1) w₂.2 b.5 in
    record {
      fits = ltb-false 16384 n a.0;
      well_formed = all_formed c b.1 b.2;
      spelled = subst (λ (ts : List Sign). Spells ts bs)
          (ap (λ t. frame t (w₂.0 ∷ b.0) lines) (title.0 ∙ sym b.3) ∙ ap (λ ts. frame c.title ts lines) (ap (λ t. t ∷ b.0) first.0 ∙ sym b.4))
          whole;
    }
