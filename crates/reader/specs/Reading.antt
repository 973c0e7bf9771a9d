-- Reading a text from left to right: each token is judged before the next is looked at, so the first that does not
-- fit gives the refusal and its place.
use Rattle.std.specs.Prelude.{ℕ, zero, suc, cond, length, Some, None, Ok, Err, codes, Option, Result, ◌==◌, nat_le, nat_lt}
use Rattle.std.specs.Str.{bytes_eq}
use Rattle.chart.specs.Words.{Text}
use Rattle.chart.specs.Names.{judged}
use Rattle.chart.specs.Lookup.{seek}
use Rattle.chart.specs.Content.{Content, message_names, sender_of, receiver_of}
use Rattle.chart.specs.Drafting.{begun, with_message, with_receipt, message_called, times_received, all_received, listed}
use Rattle.chart.specs.declared.names.NameRefusal.{NameRefusal}
use Rattle.chart.specs.declared.names.NameRefusal.TheVariants.{NotAName, TooLong}
use Rattle.chart.specs.declared.drafting.InstanceRefusal.{InstanceRefusal}
use Rattle.chart.specs.declared.drafting.InstanceRefusal.TheVariants as instance
use Rattle.reader.specs.Lexemes.{Lexeme, word, semicolon, comma, colon, finish, stray, place_of, lexeme, left}
use Rattle.reader.specs.declared.refusals.Refusal.{Refusal}
use Rattle.reader.specs.declared.refusals.Refusal.TheVariants.{TextTooLong, Unexpected, NameTooLong, TooManyInstances, NamedTwice, UnknownInstance, SentToItself, TooManyMessages, NotAsSent, NotReceived}

-- what is read, or why not
abbrev pub Outcome : Type 0 → Type 0
Outcome X = Result X Refusal

-- go on with what was read
abbrev pub then : {X Y : Type 0} → Outcome X → (X → Outcome Y) → Outcome Y
then (Ok x) f = f x
then (Err e) f = Err e

-- the word that a token is, and its place
abbrev pub word_of : Lexeme → Outcome (Text × ℕ)
word_of (word t p) = Ok (t, p)
word_of (semicolon t p) = Err (Unexpected p)
word_of (comma t p) = Err (Unexpected p)
word_of (colon t p) = Err (Unexpected p)
word_of (finish p) = Err (Unexpected p)
word_of (stray p) = Err (Unexpected p)

abbrev pub on_word : {Y : Type 0} → Lexeme → (Text → ℕ → Outcome Y) → Outcome Y
on_word l f = then (word_of l) (λ w. f w.0 w.1)

abbrev pub on_semicolon : {Y : Type 0} → Lexeme → Outcome Y → Outcome Y
on_semicolon (word t p) y = Err (Unexpected p)
on_semicolon (semicolon t p) y = y
on_semicolon (comma t p) y = Err (Unexpected p)
on_semicolon (colon t p) y = Err (Unexpected p)
on_semicolon (finish p) y = Err (Unexpected p)
on_semicolon (stray p) y = Err (Unexpected p)

abbrev pub on_colon : {Y : Type 0} → Lexeme → Outcome Y → Outcome Y
on_colon (word t p) y = Err (Unexpected p)
on_colon (semicolon t p) y = Err (Unexpected p)
on_colon (comma t p) y = Err (Unexpected p)
on_colon (colon t p) y = y
on_colon (finish p) y = Err (Unexpected p)
on_colon (stray p) y = Err (Unexpected p)

abbrev pub on_end : {Y : Type 0} → Lexeme → Outcome Y → Outcome Y
on_end (word t p) y = Err (Unexpected p)
on_end (semicolon t p) y = Err (Unexpected p)
on_end (comma t p) y = Err (Unexpected p)
on_end (colon t p) y = Err (Unexpected p)
on_end (finish p) y = y
on_end (stray p) y = Err (Unexpected p)

-- after a name of the list: a comma and more, or a semicolon
abbrev pub on_comma_or_semicolon : {Y : Type 0} → Lexeme → Outcome Y → Outcome Y → Outcome Y
on_comma_or_semicolon (word t p) more done = Err (Unexpected p)
on_comma_or_semicolon (semicolon t p) more done = done
on_comma_or_semicolon (comma t p) more done = more
on_comma_or_semicolon (colon t p) more done = Err (Unexpected p)
on_comma_or_semicolon (finish p) more done = Err (Unexpected p)
on_comma_or_semicolon (stray p) more done = Err (Unexpected p)

-- a word where a name is wanted
abbrev pub no_name : NameRefusal → ℕ → Refusal
no_name NotAName p = Unexpected p
no_name TooLong p = NameTooLong p

abbrev pub name_by : ℕ → Result Text NameRefusal → Outcome Text
name_by p (Ok t) = Ok t
name_by p (Err e) = Err (no_name e p)

abbrev pub name_at : Text → ℕ → Outcome Text
name_at t p = name_by p (judged t)

-- a word where an instance of the list is wanted
abbrev pub known_by : ℕ → Option ℕ → Outcome ℕ
known_by p None = Err (UnknownInstance p)
known_by p (Some i) = Ok i

abbrev pub instance_at : Content → Text → ℕ → Outcome ℕ
instance_at c t p = then (name_at t p) (λ u. known_by p (seek (λ x. x) u c.instances))

-- a further name of the list
abbrev pub listed_by : ℕ → Result Content InstanceRefusal → Outcome Content
listed_by p (Ok c) = Ok c
listed_by p (Err instance.TooMany) = Err (TooManyInstances p)
listed_by p (Err instance.NamedTwice) = Err (NamedTwice p)

abbrev pub further_at : Content → Text → ℕ → Outcome Content
further_at c t p = then (name_at t p) (λ u. listed_by p (listed c u))

-- an out line's message
abbrev pub new_message_at : Content → Text → ℕ → Outcome Text
new_message_at c t p =
    then (name_at t p) (λ u. cond (message_called c u) (Err (NamedTwice p)) (cond (nat_le 64 (length c.messages)) (Err (TooManyMessages p)) (Ok u)))

-- an out line's receiver
abbrev pub receiver_at : Content → ℕ → Text → ℕ → Outcome ℕ
receiver_at c s t p = then (instance_at c t p) (λ r. cond (s == r) (Err (SentToItself p)) (Ok r))

-- an in line's message
abbrev pub sent_by : Content → ℕ → ℕ → Option ℕ → Outcome ℕ
sent_by c r p None = Err (NotAsSent p)
sent_by c r p (Some m) = cond (nat_lt 0 (times_received c m)) (Err (NotAsSent p)) (cond (receiver_of c m == r) (Ok m) (Err (NotAsSent p)))

abbrev pub sent_message_at : Content → ℕ → Text → ℕ → Outcome ℕ
sent_message_at c r t p = then (name_at t p) (λ u. sent_by c r p (seek (λ x. x) u (message_names c)))

-- an in line's sender, which has to be s
abbrev pub sender_is : Content → ℕ → Text → ℕ → Outcome (Unit {0})
sender_is c s t p = then (instance_at c t p) (λ i. cond (i == s) (Ok tt) (Err (NotAsSent p)))

-- below, n is the length of the text and bs what is left of it; what is read comes with what is left after it

abbrev pub keyword_from : Text → ℕ → Text → Outcome Text
keyword_from w n bs = on_word (lexeme n bs) (λ t p. cond (bytes_eq t w) (Ok (left bs)) (Err (Unexpected p)))

abbrev pub semicolon_from : ℕ → Text → Outcome Text
semicolon_from n bs = on_semicolon (lexeme n bs) (Ok (left bs))

-- the rest of an out line at s, past `out`
abbrev pub out_line : ℕ → Content → ℕ → Text → Outcome (Content × Text)
out_line n c s bs =
    on_word (lexeme n bs) (λ t p. then (new_message_at c t p) (λ u.
    then (keyword_from (codes "to") n (left bs)) (λ bs₁.
    on_word (lexeme n bs₁) (λ t₁ p₁. then (receiver_at c s t₁ p₁) (λ r.
    then (semicolon_from n (left bs₁)) (λ bs₂. Ok (with_message c u s r, bs₂)))))))

-- the rest of an in line at r, past `in`
abbrev pub in_line : ℕ → Content → ℕ → Text → Outcome (Content × Text)
in_line n c r bs =
    on_word (lexeme n bs) (λ t p. then (sent_message_at c r t p) (λ m.
    then (keyword_from (codes "from") n (left bs)) (λ bs₁.
    on_word (lexeme n bs₁) (λ t₁ p₁. then (sender_is c (sender_of c m) t₁ p₁) (λ _.
    then (semicolon_from n (left bs₁)) (λ bs₂. Ok (with_receipt c m, bs₂)))))))

-- the rest of an event line at instance i, past its name
abbrev pub event_line : ℕ → Content → ℕ → Text → Outcome (Content × Text)
event_line n c i bs =
    on_colon (lexeme n bs) (on_word (lexeme n (left bs)) (λ t p.
    cond (bytes_eq t (codes "out")) (out_line n c i (left (left bs)))
    (cond (bytes_eq t (codes "in")) (in_line n c i (left (left bs))) (Err (Unexpected p)))))

-- a part of the text that repeats goes on, or has ended: at a place, with this left
pub data Step : Type 0 where
  more : Content → Text → Step
  ended : Content → ℕ → Text → Step

-- a comma and a further name, or the semicolon that ends the list of instances
abbrev pub instance_step : ℕ → Content → Text → Outcome Step
instance_step n c bs =
    on_comma_or_semicolon (lexeme n bs)
    (on_word (lexeme n (left bs)) (λ t p. then (further_at c t p) (λ d. Ok (more d (left (left bs))))))
    (Ok (ended c (place_of (lexeme n bs)) (left bs)))

-- an event line, or `endmsc`
abbrev pub line_step : ℕ → Content → Text → Outcome Step
line_step n c bs =
    on_word (lexeme n bs) (λ t p.
    cond (bytes_eq t (codes "endmsc")) (Ok (ended c p (left bs)))
    (then (instance_at c t p) (λ i. then (event_line n c i (left bs)) (λ r. Ok (more r.0 r.1)))))

abbrev pub go_on : (Content → Text → Outcome (Content × ℕ × Text)) → Step → Outcome (Content × ℕ × Text)
go_on go (more c bs) = go c bs
go_on go (ended c p bs) = Ok (c, p, bs)

-- what one step of a part does, where bs is left of a text of n bytes
abbrev pub Stepping : Type 0
Stepping = ℕ → Content → Text → Outcome Step

-- step by step to the end of the part; each step takes a byte, so f only has to be large enough
abbrev pub steps_from : Stepping → ℕ → ℕ → Content → Text → Outcome (Content × ℕ × Text)
steps_from step zero n c bs = Err TextTooLong
steps_from step (suc f) n c bs = then (step n c bs) (go_on (steps_from step f n))

abbrev pub part_from : Stepping → ℕ → Content → Text → Outcome (Content × ℕ × Text)
part_from step n c bs = steps_from step (suc (length bs)) n c bs

-- past `endmsc`: a semicolon, and then blanks only
abbrev pub ending : ℕ → Text → Outcome (Unit {0})
ending n bs = then (semicolon_from n bs) (λ bs₁. on_end (lexeme n bs₁) (Ok tt))

-- past the first name of the list: further names, event lines, `endmsc` `;`
abbrev pub body_from : ℕ → Content → Text → Outcome Content
body_from n c bs =
    then (part_from instance_step n c bs) (λ i.
    then (part_from line_step n i.0 i.2) (λ l.
    cond (all_received l.0) (then (ending n l.2) (λ _. Ok l.0)) (Err (NotReceived l.1))))

-- `msc` title `;`, `inst` and the first name of the list: the two names, and what is left
abbrev pub heading_from : ℕ → Text → Outcome (Text × Text × Text)
heading_from n bs =
    then (keyword_from (codes "msc") n bs) (λ bs₁.
    on_word (lexeme n bs₁) (λ t p. then (name_at t p) (λ title.
    then (semicolon_from n (left bs₁)) (λ bs₂.
    then (keyword_from (codes "inst") n bs₂) (λ bs₃.
    on_word (lexeme n bs₃) (λ t₁ p₁. then (name_at t₁ p₁) (λ first. Ok (title, first, left bs₃))))))))

-- the heading, and the rest
abbrev pub chart_from : ℕ → Text → Outcome Content
chart_from n bs = then (heading_from n bs) (λ h. body_from n (begun h.0 h.1) h.2)

-- the chart that a text gives, or why it comes back
abbrev pub reading : Text → Outcome Content
reading bs = cond (nat_lt 16384 (length bs)) (Err TextTooLong) (chart_from (length bs) bs)
