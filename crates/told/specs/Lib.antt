-- What a told refusal means.
pub mod Numbers
