-- What the proofs share.
mod Lines
