-- Laws between a state and its words: reading and writing one part, and that a state is its words and no more.
use Prim.Native.Nat.{ℕ, ◌<◌, ◌+◌, ◌-◌, ◌*◌}
use mathlib.Core.Path.{◌≡◌, refl, ap, ap₂, sym, ◌∙◌}
use mathlib.Core.List.{List, [], ◌∷◌, ◌++◌, map, append-nil}
use native.Mathlib.Omega.{arith}
use lib.ListN.{length, take, drop, replicate, set, length-take, length-drop, length-append, take-append-drop}
use lib.Seq.{drop-drop, take_all}
use Rattle.lists.specs.Rows.{joined, records_at}
use Rattle.lists.proofs.Written.{take-before}
use Rattle.lists.proofs.Rows.{Rowed, read_at, read_is, write_at, write_is, write_around, length-records, record_read}
use Rattle.lists.proofs.Rows.{record_put, records-before, records-behind, row_again, records_words, words_records, length-joined}
use Rattle.contexts.specs.declared.StreamContext.{StreamContext}
use Rattle.contexts.specs.declared.MessageContext.{MessageContext}
use Rattle.wire.specs.declared.Setup.{Setup}
use Rattle.contexts.specs.State.{State, fresh, stream_contexts, message_contexts, stream_in, message_in, with_stream, with_message}
use Rattle.contexts.specs.State.{holding}
use Rattle.contexts.specs.Words.{state_of, words_of, state_words, head_words, stream_words, message_words, first_stream}
use Rattle.contexts.specs.Words.{first_message, setup_from, words_of_setup, stream_from, words_of_stream, message_from, words_of_message}

-- ---- each part is its words and no more

setup_rowed : Rowed head_words setup_from words_of_setup
setup_rowed = record { wide = λ s. refl; same = λ s. refl; again = λ w. refl }

stream_rowed : Rowed stream_words stream_from words_of_stream
stream_rowed = record { wide = λ c. refl; same = λ c. refl; again = λ w. refl }

message_rowed : Rowed message_words message_from words_of_message
message_rowed = record { wide = λ c. refl; same = λ c. refl; again = λ w. refl }

-- a state of its parts
made : {setup setup' : Setup} {streams streams' : List StreamContext} {messages messages' : List MessageContext}
    → setup ≡ setup' → streams ≡ streams' → messages ≡ messages'
    → ◌≡◌ {A = State} (record { setup = setup; streams = streams; messages = messages }) (record { setup = setup'; streams = streams'; messages = messages' })
made a b d = rw (a, b, d)

-- ---- reading and writing one part

module _ (w : List ℕ) where
  pub sixteen : length (state_of w).streams ≡ stream_contexts
  unfolding state_of
  sixteen = length-records stream_from stream_words stream_contexts first_stream w

  pub eight : length (state_of w).messages ≡ message_contexts
  unfolding state_of
  eight = length-records message_from message_words message_contexts first_message w

  module _ (whole : length w ≡ state_words) where
    pub setup-read : setup_from (read_at w 0 0 head_words) ≡ (state_of w).setup
    unfolding state_of
    setup-read = ap setup_from (read_is w 0 0 head_words (omega arith))

    pub stream_read : (i : ℕ) → i < stream_contexts → stream_from (read_at w (first_stream + stream_words * i) 0 stream_words) ≡ stream_in (state_of w) i
    unfolding state_of
    stream_read = record_read stream_from stream_words stream_contexts first_stream w (omega arith)

    pub message_read : (i : ℕ) → i < message_contexts → message_from (read_at w (first_message + message_words * i) 0 message_words) ≡ message_in (state_of w) i
    unfolding state_of
    message_read = record_read message_from message_words message_contexts first_message w (omega arith)

    pub stream_put : (i : ℕ) (c : StreamContext) → i < stream_contexts → state_of (write_at w (first_stream + stream_words * i) 0 (words_of_stream c)) ≡ with_stream (state_of w) i c
    unfolding state_of
    stream_put i c h =
        let at : ℕ = first_stream + stream_words * i in
        ap state_of (write_is w at (words_of_stream c) (omega arith))
        ∙ made
        (ap setup_from (take-before w (words_of_stream c) at (omega arith) head_words (omega arith)))
        (record_put stream_from stream_words stream_contexts first_stream w (omega arith) i (words_of_stream c) refl h)
        (records-behind message_from message_words message_contexts first_message w (omega arith) at (words_of_stream c) (omega arith))

    pub message_put : (i : ℕ) (c : MessageContext) → i < message_contexts → state_of (write_at w (first_message + message_words * i) 0 (words_of_message c)) ≡ with_message (state_of w) i c
    unfolding state_of
    message_put i c h =
        let at : ℕ = first_message + message_words * i in
        ap state_of (write_is w at (words_of_message c) (omega arith))
        ∙ made
        (ap setup_from (take-before w (words_of_message c) at (omega arith) head_words (omega arith)))
        (records-before stream_from stream_words stream_contexts first_stream w (omega arith) at (words_of_message c) (omega arith) (omega arith))
        (record_put message_from message_words message_contexts first_message w (omega arith) i (words_of_message c) refl h)

    -- a context that goes on: its first word and its last are written, and those between stay

    pub stream_hold : (i held : ℕ) → i < stream_contexts
        → state_of (write_at (set w (first_stream + stream_words * i + 0) 1) (first_stream + stream_words * i) (stream_words - 1) (held ∷ [])) ≡ with_stream (state_of w) i (holding (stream_in (state_of w) i) held)
    stream_hold i held h =
        let at : ℕ = first_stream + stream_words * i in
        let c : StreamContext = stream_from (read_at w at 0 stream_words) in
        sym (ap state_of (write_around w at 1 (stream_words - 2) (held ∷ [])))
        ∙ (stream_put i (holding c held) h ∙ ap (λ (x : StreamContext). with_stream (state_of w) i (holding x held)) (stream_read i h))

    -- ---- a state is its words and no more

    pub words_of_lem : words_of (state_of w) ≡ w
    unfolding state_of words_of
    words_of_lem =
        let streams : joined (map words_of_stream (state_of w).streams) ≡ take (stream_words * stream_contexts) (drop first_stream w) =
        records_words stream_rowed stream_contexts first_stream w (omega arith) in
        let messages : joined (map words_of_message (state_of w).messages) ≡ drop (stream_words * stream_contexts) (drop first_stream w) =
        records_words message_rowed message_contexts first_message w (omega arith)
        ∙ (take_all (message_words * message_contexts) (drop first_message w) (simp length-drop (omega arith)) ∙ sym (drop-drop (stream_words * stream_contexts) first_stream w)) in
        ap₂ (λ (x y : List ℕ). x ++ y) (row_again setup_rowed (take head_words w) (simp length-take (omega arith)))
        (ap₂ (λ (x y : List ℕ). x ++ y) streams messages ∙ take-append-drop (stream_words * stream_contexts) (drop first_stream w))
        ∙ take-append-drop head_words w

module _ (s : State) (a : length s.streams ≡ stream_contexts) (b : length s.messages ≡ message_contexts) where
  size : length (joined (map words_of_stream s.streams)) ≡ stream_words * stream_contexts
  size = length-joined stream_rowed s.streams ∙ ap (λ (n : ℕ). stream_words * n) a

  pub length_words : length (words_of s) ≡ state_words
  unfolding words_of
  length_words = simp length-append (omega (arith, size, length-joined message_rowed s.messages))

  pub state_of_lem : state_of (words_of s) ≡ s
  unfolding state_of words_of
  state_of_lem =
      let head : List ℕ = words_of_setup s.setup in
      let front : List ℕ = joined (map words_of_stream s.streams) in
      let rest : List ℕ = joined (map words_of_message s.messages) in
      made refl
      (words_records stream_rowed stream_contexts first_stream head s.streams rest refl a)
      (ap (λ (l : List ℕ). records_at message_from message_words message_contexts first_message (head ++ (front ++ l))) (sym (append-nil rest))
      ∙ words_records message_rowed message_contexts first_message (head ++ front) s.messages [] (simp length-append (omega (arith, size))) b)

-- ---- a state of zeros

-- with the head written it is as setup makes it
pub begun : (w : List ℕ) (setup : Setup) → w ≡ replicate state_words 0 → write_at w 0 0 (words_of_setup setup) ≡ words_of (fresh setup)
unfolding words_of joined
begun w setup e = ap (λ (l : List ℕ). write_at l 0 0 (words_of_setup setup)) e
